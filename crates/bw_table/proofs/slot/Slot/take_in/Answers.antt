use Rattle.std.proofs.Common.{rules}
use Rattle.bw_table.proofs.slot.Slot.take_in.Goals as goal

pub returns : goal.returns
returns g c = search rules
