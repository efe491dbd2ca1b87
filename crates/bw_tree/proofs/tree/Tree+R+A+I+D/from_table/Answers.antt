use Rattle.bw_tree.proofs.Trees.{all_within}
use Rattle.bw_tree.proofs.tree.Tree+R+A+I+D.from_table.Goals as goal

pub over-requires : goal.over-requires
over-requires g c = record { within = all_within _ c.table.ensures.tree }
