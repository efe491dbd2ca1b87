use Rattle.std.proofs.Common.{rules}
use Rattle.bw_chain.proofs.entries.change.Change.edit.Goals as goal

pub returns-in-Without : goal.returns-in-Without
returns-in-Without g c = search rules
