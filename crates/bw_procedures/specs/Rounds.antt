-- What one round of help leads to.
use Rattle.std.specs.Prelude.{ℕ, ◌+◌, ◌-◌, ◌*◌, ◌<◌, ◌^◌, Result, Ok, Err}
use Rattle.bw_step.specs.declared.place.Todo.{Todo}
use Rattle.bw_step.specs.declared.place.Todo.TheVariants.{Merge, Post, DropTerm}
use Rattle.bw_procedures.specs.declared.round.Rung.{Rung}
use Rattle.bw_procedures.specs.declared.round.Task.{Task}
use Rattle.bw_procedures.specs.declared.round.Turn.{Turn}
use Rattle.bw_procedures.specs.declared.round.Turn.TheVariants.{Over, Idle, Next}
use Rattle.bw_procedures.specs.Seen.{Seen}
use Rattle.bw_procedures.specs.declared.fault.Fault.{Fault}
use Rattle.bw_procedures.specs.Calls.{OnlyReshapes, IsEarned, RoseBy}

-- falls with each change of rounds: it leads up, or to a smaller key on the same level
abbrev pub rank : ℕ → ℕ → ℕ
rank level low = (255 - level) * (3 * 2 ^ 64) + 3 * low

abbrev pub kind_rank : Todo → ℕ
kind_rank (Post page) = 2
kind_rank (Merge page) = 1
kind_rank (DropTerm page) = 0

abbrev pub task_rank : Task → ℕ
task_rank task = rank task.rung.level task.rung.low + kind_rank task.todo

-- the next round, if there is one, is below one of this kind on this rung
abbrev pub NextBelow : Rung → ℕ → Turn → Type 0
NextBelow rung kind Over = Unit {0}
NextBelow rung kind Idle = Unit {0}
NextBelow rung kind (Next task) = task_rank task < rank rung.level rung.low + kind

-- the round isn't over by a proposal
abbrev pub IsFree : Turn → Type 0
IsFree Over = ⊥
IsFree Idle = Unit {0}
IsFree (Next task) = Unit {0}

-- a round that proposed something cost effort
abbrev pub TurnCosts : Turn → Seen → Seen → Type 0
TurnCosts Over old new = RoseBy 1 old.effort new.effort
TurnCosts Idle old new = Unit {0}
TurnCosts (Next task) old new = Unit {0}

-- one round of this kind on this rung: it changes nothing but the tree's shape, and otherwise the fault is earned
abbrev pub IsRound : Rung → ℕ → ℕ → Result Turn Fault → Seen → Seen → Type 0
IsRound rung kind limit (Ok turn) old new = OnlyReshapes old new × TurnCosts turn old new × NextBelow rung kind turn
IsRound rung kind limit (Err fault) old new = OnlyReshapes old new × IsEarned limit old new fault
