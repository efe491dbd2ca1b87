use Rattle.std.proofs.Common.{rules}
use Rattle.bw_table.proofs.slot.Slot.insert.Goals as goal

pub returns : goal.returns
returns g c = search rules
