-- Reasons that stand before others.
use Rattle.std.proofs.Common.{◌≡◌, ◌++◌, List, [], ◌∷◌, Option, Some, None, Err}
use Rattle.bw_keys.specs.Reasons.{first_reason}
use Rattle.bw_step.specs.declared.refused.Refused.{Refused}
use Rattle.bw_table.specs.Answers.{fine_unless}

-- the first of some reasons is the first of all
pub refused_before : (before after : List (Option Refused)) (reason : Refused) → Err reason ≡ fine_unless (first_reason before) → Err reason ≡ fine_unless (first_reason (before ++ after))
refused_before [] after reason is = absurd (cc is)
refused_before (None ∷ before) after reason is = refused_before before after reason is
refused_before (Some first ∷ before) after reason is = is
