use Rattle.std.proofs.Common.{◌-◌}
use Rattle.bw_procedures.specs.Calls.{OnlyReshapes}
use Rattle.bw_procedures.proofs.tending.settle.Given as goal

abbrev pub invariant-rounds : goal.invariant-rounds
invariant-rounds g l = record {
  follows : g.S.Steps.follows l.fn.steps l.steps;
  reshapes : OnlyReshapes (g.S.Steps.seen l.fn.steps) (g.S.Steps.seen l.steps);
}

abbrev pub decreases-rounds : goal.decreases-rounds
decreases-rounds g l = l.limit - (g.S.Steps.seen l.steps).effort
