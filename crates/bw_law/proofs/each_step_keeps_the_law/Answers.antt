use Rattle.bw_law.proofs.AllSteps.{step_law}
use Rattle.bw_law.proofs.each_step_keeps_the_law.Goals as goal

pub returns : goal.returns
returns c = step_law
