use Rattle.std.proofs.Common.{rules}
use Rattle.bw_delta.proofs.chain.Chain.merge.Goals as goal

pub returns : goal.returns
returns g c = search rules
