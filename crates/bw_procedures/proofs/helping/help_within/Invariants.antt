use Rattle.bw_procedures.specs.Calls.{OnlyReshapes}
use Rattle.bw_procedures.specs.Rounds.{task_rank}
use Rattle.bw_procedures.proofs.helping.help_within.Given as goal

abbrev pub invariant-rounds : goal.invariant-rounds
invariant-rounds g l = record {
  follows : g.S.Steps.follows l.fn.steps l.steps;
  reshapes : OnlyReshapes (g.S.Steps.seen l.fn.steps) (g.S.Steps.seen l.steps);
}

abbrev pub decreases-rounds : goal.decreases-rounds
decreases-rounds g l = task_rank l.task
