use Rattle.bw_table.proofs.Same.{same_pages}
use Rattle.bw_table.proofs.slot.is_split_off.Goals as goal

pub returns : goal.returns
returns g c = same_pages _ _ _ c.is_upper_part.ensures
