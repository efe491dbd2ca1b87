use Rattle.std.proofs.Common.{sym}
use Rattle.bw_forest.proofs.closed.ClosedForest.trees.Goals as goal

pub returns-clause-trees : goal.returns-clause-trees
returns-clause-trees g c = rw (sym c.self.view_is) c.self.invariant.each
