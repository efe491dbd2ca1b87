use Rattle.bw_tree.proofs.tree.ForestTree+R+A+I+D.in_forest.Goals as goal

pub over-requires-2 : goal.over-requires-2
over-requires-2 g c = record { within = rw c.over.ensures.table c.requires.within }
