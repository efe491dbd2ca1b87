use Rattle.std.proofs.Common.{rules}
use Rattle.bw_delta.proofs.chain.Chain.prepend.Goals as goal

pub invariant_of-drop : goal.invariant_of-drop
invariant_of-drop g c = search rules

pub returns : goal.returns
returns g c = search rules
