-- The numbers of the refusals, which say in what order the reasons against a step are tried.
use Rattle.std.specs.Prelude.{◌≡◌, ℕ, ◌≤◌, List, [], ◌∷◌, Option, Some, None, slice_get}
use Rattle.bw_step.specs.declared.refused.Refused.{Refused}
use Rattle.bw_step.specs.declared.refused.Refused.TheVariants.{Absent, Stale, Frozen, WrongKind, OutOfRange, Present, NoKey, NotBare, BadSeparator, NotSame, WrongStage, WrongParent, TermStands, Leftmost, NotNeighbours, Deep, TooTall, TableFull, Worn}
use Rattle.bw_step.specs.Proposals.{Proposal}
use Rattle.bw_law.specs.Tables.{TableValue}
use Rattle.bw_law.specs.Refusals.{reasons, refusals_of, refusal}

abbrev pub number_of_refusal : Refused → ℕ
number_of_refusal Absent = 1
number_of_refusal Stale = 2
number_of_refusal Frozen = 3
number_of_refusal WrongKind = 4
number_of_refusal OutOfRange = 5
number_of_refusal (Present value) = 6
number_of_refusal NoKey = 6
number_of_refusal NotBare = 7
number_of_refusal BadSeparator = 8
number_of_refusal NotSame = 9
number_of_refusal WrongStage = 10
number_of_refusal WrongParent = 11
number_of_refusal (TermStands page) = 12
number_of_refusal Leftmost = 13
number_of_refusal NotNeighbours = 14
number_of_refusal Deep = 15
number_of_refusal TooTall = 16
number_of_refusal TableFull = 17
number_of_refusal Worn = 18

abbrev pub HasNumber : ℕ → Option Refused → Type 0
HasNumber number None = Unit {0}
HasNumber number (Some reason) = number_of_refusal reason ≡ number

-- each reason that applies has the number at its place
abbrev pub AreNumbered : List ℕ → List (Option Refused) → Type 0
AreNumbered [] [] = Unit {0}
AreNumbered [] (reason ∷ rest) = ⊥
AreNumbered (number ∷ numbers) [] = ⊥
AreNumbered (number ∷ numbers) (reason ∷ rest) = HasNumber number reason × AreNumbered numbers rest

-- the reason applies to the step
abbrev pub Applies : TableValue → Proposal → Refused → Type 0
Applies table step reason =
    (place : ℕ) × (slice_get (reasons table step) place ≡ Some (Some reason))

-- a step is refused for the reason with the least number of those
-- that apply, and accepted where none does
pub record RefusedForLeast (table : TableValue) (step : Proposal) : Type 0 where
  pub numbered : AreNumbered (refusals_of step) (reasons table step)
  pub applies : (reason : Refused) → refusal table step ≡ Some reason → Applies table step reason
  pub least : (reason other : Refused) → refusal table step ≡ Some reason → Applies table step other
      → number_of_refusal reason ≤ number_of_refusal other
  pub none : refusal table step ≡ None → (reason : Refused) → Applies table step reason → ⊥

abbrev pub RefusalLaw : Type 0
RefusalLaw = (table : TableValue) (step : Proposal) → RefusedForLeast table step
