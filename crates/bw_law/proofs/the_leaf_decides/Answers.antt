use Rattle.bw_law.proofs.Facts.{leaf_decides}
use Rattle.bw_law.proofs.the_leaf_decides.Goals as goal

pub returns : goal.returns
returns c = λ table law leaf key value is. leaf_decides table law leaf key value is.in_row is.is_leaf is.spans
