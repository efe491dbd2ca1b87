-- Which pairs a tree may have: those whose keys lie in its range.
use Rattle.std.specs.Prelude.{◌≡◌, ℕ, List, Some}
use Rattle.bw_keys.specs.declared.range.Fence.TheVariants.{Top}
use Rattle.bw_keys.specs.declared.range.Range.{Range}
use Rattle.bw_keys.specs.Ranges.{Holds}
use Rattle.bw_step.specs.declared.action.Action.{Action}
use Rattle.bw_step.specs.declared.action.Action.TheVariants as actions
use Rattle.bw_step.specs.declared.refused.Refused.{Refused}
use Rattle.bw_step.specs.declared.refused.Refused.TheVariants.{OutOfRange}
use Rattle.bw_step.specs.Proposals.{Proposal, insert, delete, modify}
use Rattle.bw_law.specs.Refusals.{refusal}
use Rattle.bw_law.specs.Slots.{SlotValue}
use Rattle.bw_law.specs.Tables.{TableValue, Maps}

-- the range that no key lies out of
abbrev pub all_keys : Range
all_keys = record { low = 0; high = Top }

-- each pair of the map lies in the range
abbrev pub LiesIn : Range → List SlotValue → Type 0
LiesIn range slots = (key value : ℕ) → Maps slots key value → Holds range key

-- the key that a step changes lies in the range; a step that changes the shape has none
abbrev pub StaysIn : Range → Proposal → Type 0
StaysIn range (insert page seen key value) = Holds range key
StaysIn range (delete page seen key) = Holds range key
StaysIn range (modify page seen key value) = Holds range key
StaysIn range step = Unit {0}

-- the key that an action changes lies in the range; one that changes the shape has none
abbrev pub ActsIn : Range → Action → Type 0
ActsIn range (actions.Change key wished) = Holds range key
ActsIn range (actions.Record key wished) = Holds range key
ActsIn range action = Unit {0}

-- a step is refused where its key lies out of the range, and otherwise as the table refuses it
pub record IsWhyRefused (range : Range) (table : TableValue) (step : Proposal)
    (why : Refused) : Type 0 where
  pub outside : (StaysIn range step → ⊥) → why ≡ OutOfRange
  pub inside : StaysIn range step → refusal table step ≡ Some why
