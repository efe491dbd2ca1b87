use Rattle.std.proofs.Common.{rules}
use Rattle.bw_step.proofs.steps.insert.Insert.twin.Goals as goal

pub returns : goal.returns
returns g c = search rules
