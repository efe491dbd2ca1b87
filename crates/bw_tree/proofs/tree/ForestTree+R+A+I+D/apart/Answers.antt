use Rattle.std.proofs.Common.{sym}
use Rattle.bw_tree.proofs.Trees.{tree_of}
use Rattle.bw_tree.proofs.tree.ForestTree+R+A+I+D.apart.Goals as goal

pub returns-clause-tree : goal.returns-clause-tree
returns-clause-tree g c = tree_of _ _ c.booked.invariant.0

pub returns-clause-within : goal.returns-clause-within
returns-clause-within g c = rw c.booked.view_is c.into_inner-booked.result.within
