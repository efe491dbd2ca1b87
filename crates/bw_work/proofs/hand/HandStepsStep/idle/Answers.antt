use Rattle.std.proofs.Common.{rules}
use Rattle.bw_work.proofs.hand.HandStepsStep.idle.Goals as goal

pub returns-clause-seen : goal.returns-clause-seen
returns-clause-seen g c = search rules
