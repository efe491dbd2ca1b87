-- What a table's check foretells.
use Rattle.std.proofs.Common.{◌≡◌, Option, Some, None, Ok, Err, refl}
use Rattle.bw_step.specs.declared.refused.Refused.{Refused}
use Rattle.bw_table.specs.Answers.{fine_unless}

pub is_fine : (reason : Option Refused) → Ok tt ≡ fine_unless reason → reason ≡ None
is_fine None is = refl
is_fine (Some reason) is = absurd (cc (is))

pub is_foretold : (reason : Option Refused) (foretold : Refused) → Err foretold ≡ fine_unless reason → reason ≡ Some foretold
is_foretold None foretold is = absurd (cc (is))
is_foretold (Some reason) foretold is = cc (is)
