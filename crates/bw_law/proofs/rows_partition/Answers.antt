use Rattle.bw_law.proofs.RowList.{row_law}
use Rattle.bw_law.proofs.rows_partition.Goals as goal

pub returns : goal.returns
returns c = row_law
