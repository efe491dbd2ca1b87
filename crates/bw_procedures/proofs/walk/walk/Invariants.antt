use Rattle.std.proofs.Common.{◌-◌}
use Rattle.bw_procedures.specs.Calls.{OnlySpends}
use Rattle.bw_procedures.proofs.walk.walk.Given as goal

abbrev pub invariant-again : goal.invariant-again
invariant-again g l = record {
  follows : g.S.Steps.follows l.fn.steps l.steps;
  seen : OnlySpends (g.S.Steps.seen l.fn.steps) (g.S.Steps.seen l.steps);
}

abbrev pub decreases-again : goal.decreases-again
decreases-again g l = l.limit - (g.S.Steps.seen l.steps).effort
