-- Steps proposed one after the other.
use Rattle.std.specs.Prelude.{◌≡◌, List, [], ◌∷◌, Option, None, is_none, if◌then◌else◌}
use Rattle.bw_step.specs.declared.receipt.Receipt.{Receipt}
use Rattle.bw_step.specs.declared.refused.Refused.{Refused}
use Rattle.bw_step.specs.Proposals.{Proposal}
use Rattle.bw_law.specs.Tables.{TableValue}
use Rattle.bw_law.specs.Refusals.{refusal}
use Rattle.bw_law.specs.Effects.{after, TakesStep}

-- the table after a proposed step: a refused one changes nothing
abbrev pub next_table : TableValue → Proposal → TableValue
next_table table step = if is_none (refusal table step) then after table step else table

abbrev pub run : TableValue → List Proposal → TableValue
run table [] = table
run table (step ∷ steps) = run (next_table table step) steps

-- the answers to the steps of a run
abbrev pub answers : TableValue → List Proposal → List (Option Refused)
answers table [] = []
answers table (step ∷ steps) = refusal table step ∷ answers (next_table table step) steps

-- the table took the steps one after the other, each with its receipt; none was refused
abbrev pub TakesInTurn : TableValue → List (Proposal × Receipt) → TableValue → Type 0
TakesInTurn old [] new = new ≡ old
TakesInTurn old (taken ∷ rest) new =
    (between : TableValue) × (refusal old taken.0 ≡ None) × TakesStep old taken.0 taken.1 between
    × TakesInTurn between rest new
