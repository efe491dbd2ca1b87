use Rattle.std.proofs.Common.{sym}
use Rattle.bw_forest.proofs.closed_tree.ClosedTree.table.Goals as goal

pub returns-clause-within : goal.returns-clause-within
returns-clause-within g c = rw (sym c.self.view_is) c.self.invariant
