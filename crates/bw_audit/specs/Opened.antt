-- Histories of a table that was opened with pairs.
use Rattle.std.specs.Prelude.{ℕ, ◌+◌, ◌-◌, List, [], ◌∷◌, length, map, nat_lt, if◌then◌else◌}
use Rattle.bw_step.specs.declared.receipt.Receipt.{Receipt}
use Rattle.bw_step.specs.declared.receipt.Receipt.TheVariants.{Inserted, Deleted, Modified, Looked, Shaped}
use Rattle.bw_audit.specs.declared.verdict.Verdict.{Verdict}
use Rattle.bw_audit.specs.declared.verdict.Verdict.TheVariants.{Yes, No}
use Rattle.bw_audit.specs.Legal.{IsLegal}
use Rattle.bw_audit.specs.Verdicts.{verdict_of}

-- the insertions of the pairs, numbered from the one after this on
abbrev pub insertions : ℕ → List (ℕ × ℕ) → List Receipt
insertions number [] = []
insertions number (p ∷ ps) = Inserted (number + 1) p.0 p.1 ∷ insertions (number + 1) ps

-- more changes than any history has
abbrev pub past_all : ℕ
past_all = 18446744073709551615

-- how many changes a look saw, if there were so many before the history, of which so many pairs are
-- left; one that saw fewer is past all changes, where no look is true
abbrev pub seen_from : ℕ → ℕ → ℕ → ℕ
seen_from first left at = if nat_lt at first then past_all else at - (first - left)

-- a receipt, counted as if only insertions of the pairs that are left had come before the history
abbrev pub recounted : ℕ → ℕ → Receipt → Receipt
recounted first left (Inserted number key value) = Inserted (number - (first - left)) key value
recounted first left (Deleted number key value) = Deleted (number - (first - left)) key value
recounted first left (Modified number key old value) =
    Modified (number - (first - left)) key old value
recounted first left (Looked at key found) = Looked (seen_from first left at) key found
recounted first left (Shaped kind page other) = Shaped kind page other

-- the trails so counted, behind one with the insertions of those pairs
abbrev pub trails_from : ℕ → List (ℕ × ℕ) → List (List Receipt) → List (List Receipt)
trails_from first pairs trails =
    insertions 0 pairs ∷ map (map (recounted first (length pairs))) trails

-- The history of a table that was opened after so many changes, with these pairs, is legal: it
-- would be if these had been inserted first, by a worker of their own, and nothing else been done.
abbrev pub IsLegalFrom : ℕ → List (ℕ × ℕ) → List (List Receipt) → List (ℕ × ℕ) → Type 0
IsLegalFrom first begun trails pairs = IsLegal (trails_from first begun trails) pairs

-- the same verdict without that worker
abbrev pub of_the_others : Verdict → Verdict
of_the_others Yes = Yes
of_the_others (No worker place) = No (worker - 1) place

abbrev pub verdict_from : ℕ → List (ℕ × ℕ) → List (List Receipt) → List (ℕ × ℕ) → Verdict
verdict_from first begun trails pairs =
    of_the_others (verdict_of (trails_from first begun trails) pairs)
