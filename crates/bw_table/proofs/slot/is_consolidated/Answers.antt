use Rattle.bw_table.proofs.Same.{same_pages}
use Rattle.bw_table.proofs.slot.is_consolidated.Goals as goal

pub returns : goal.returns
returns g c = same_pages _ _ _ c.same.ensures
