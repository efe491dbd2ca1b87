use Rattle.bw_law.proofs.Least.{refusal_law}
use Rattle.bw_law.proofs.the_first_refusal_is_the_least.Goals as goal

pub returns : goal.returns
returns c = refusal_law
