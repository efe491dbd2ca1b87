use Rattle.bw_law.proofs.NewTable.{new_law}
use Rattle.bw_law.proofs.the_new_table_is_lawful.Goals as goal

pub returns : goal.returns
returns c = new_law
