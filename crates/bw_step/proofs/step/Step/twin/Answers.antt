use Rattle.std.proofs.Common.{rules}
use Rattle.bw_step.proofs.step.Step.twin.Goals as goal

pub returns-in_ok-twin-in-TermDelete : goal.returns-in_ok-twin-in-TermDelete
returns-in_ok-twin-in-TermDelete g c = search rules
