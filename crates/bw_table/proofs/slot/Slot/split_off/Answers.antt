use Rattle.std.proofs.Common.{rules}
use Rattle.bw_table.proofs.slot.Slot.split_off.Goals as goal

pub returns-clause-lower : goal.returns-clause-lower
returns-clause-lower g c = search rules
