-- How far tending goes.
use Rattle.std.specs.Prelude.{ℕ, ◌+◌, ◌-◌, ◌*◌, ◌<◌, Option, Some, None, Result, Ok, Err}
use Rattle.bw_keys.specs.declared.page.TheConstants.{MAX_LEVEL}
use Rattle.bw_procedures.specs.declared.fault.Fault.{Fault}
use Rattle.bw_procedures.specs.Seen.{Seen}
use Rattle.bw_procedures.specs.Calls.{OnlyReshapes, IsEarned}

-- what tending a page of the level, and one on each level above up to the greatest, costs at most
-- where nobody else takes steps
abbrev pub tending_cost : ℕ → ℕ
tending_cost level = (MAX_LEVEL - level + 1) * 16

-- tending goes on, with another page or the term of a new one, only where an accepted step brought the effort nearer to the limit
abbrev pub GoesOnWithin : {T : Type 0} → ℕ → Seen → Seen → Option T → Type 0
GoesOnWithin limit old new None = Unit {0}
GoesOnWithin limit old new (Some next) = limit - new.effort < limit - old.effort

-- one page was tended: nothing but the tree's shape changed, and otherwise the fault is earned
abbrev pub IsTended : {T : Type 0} → ℕ → Result (Option T) Fault → Seen → Seen → Type 0
IsTended limit (Ok next) old new = OnlyReshapes old new × GoesOnWithin limit old new next
IsTended limit (Err fault) old new = OnlyReshapes old new × IsEarned limit old new fault
