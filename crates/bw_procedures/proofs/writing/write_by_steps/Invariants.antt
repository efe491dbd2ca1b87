use Rattle.std.proofs.Common.{◌+◌, ◌-◌, ◌*◌, cond, is_some}
use Rattle.bw_procedures.specs.Calls.{OnlyReshapes}
use Rattle.bw_procedures.specs.Writing.{KeptIsEarned}
use Rattle.bw_procedures.proofs.writing.write_by_steps.Given as goal

abbrev pub invariant-again : goal.invariant-again
invariant-again g l = record {
  follows : g.S.Steps.follows l.fn.steps l.steps;
  reshapes : OnlyReshapes (g.S.Steps.seen l.fn.steps) (g.S.Steps.seen l.steps);
  kept : KeptIsEarned l.limit (g.S.Steps.seen l.fn.steps) (g.S.Steps.seen l.steps) l.kept;
}

-- an attempt costs effort, or keeps the one fault
abbrev pub decreases-again : goal.decreases-again
decreases-again g l = 2 * (l.limit - (g.S.Steps.seen l.steps).effort) + cond (is_some l.kept) 0 1
