use Rattle.bw_law.proofs.MorePages.{same_as_new}
use Rattle.bw_law.proofs.a_new_table_may_get_its_pages_later.Goals as goal

pub returns : goal.returns
returns c = same_as_new
