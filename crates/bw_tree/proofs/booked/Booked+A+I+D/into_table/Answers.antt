use Rattle.bw_tree.proofs.Trees.{tree_of}
use Rattle.bw_tree.proofs.booked.Booked+A+I+D.into_table.Goals as goal

pub returns-clause-tree : goal.returns-clause-tree
returns-clause-tree g c = tree_of _ _ c.self.invariant.0
