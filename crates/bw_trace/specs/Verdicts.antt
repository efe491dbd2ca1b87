-- What the program says of a history.
use Rattle.std.specs.Prelude.{ℕ, ◌≡◌, ◌↔◌, ◌++◌, List, codes, decimal}
use Rattle.bw_step.specs.declared.receipt.Receipt.{Receipt}
use Rattle.bw_audit.specs.declared.verdict.Verdict.{Verdict}
use Rattle.bw_audit.specs.declared.verdict.Verdict.TheVariants.{Yes}
use Rattle.bw_audit.specs.Legal.{IsLegal}
use Rattle.bw_audit.specs.Verdicts.{verdict_of, verdict_text}
use Rattle.bw_texts.specs.Histories.{IsHistory}

-- the verdict on the history that a text has: Yes exactly where it is legal
abbrev pub IsVerdictOn : List ℕ → Verdict → Type 0
IsVerdictOn bytes verdict =
    (trails : List (List Receipt)) × (pairs : List (ℕ × ℕ)) × IsHistory bytes trails pairs
    × ((verdict ≡ Yes) ↔ IsLegal trails pairs) × (verdict ≡ verdict_of trails pairs)

-- the line of a verdict
abbrev pub verdict_line : Verdict → List ℕ
verdict_line verdict = (codes "audit " ++ verdict_text verdict) ++ codes "\n"

-- the line of a verdict on a tree of a forest, with the tree's number
abbrev pub tree_verdict_line : ℕ → Verdict → List ℕ
tree_verdict_line tree verdict =
    codes "audit " ++ verdict_text verdict ++ codes " tree " ++ decimal tree ++ codes "\n"
