use Rattle.std.proofs.Common.{◌-◌}
use Rattle.bw_procedures.specs.Calls.{OnlyReshapes}
use Rattle.bw_procedures.proofs.tending.tend_within.Given as goal

abbrev pub invariant-up : goal.invariant-up
invariant-up g l = record {
  follows : g.S.Steps.follows l.fn.steps l.steps;
  reshapes : OnlyReshapes (g.S.Steps.seen l.fn.steps) (g.S.Steps.seen l.steps);
}

abbrev pub decreases-up : goal.decreases-up
decreases-up g l = l.limit - (g.S.Steps.seen l.steps).effort
