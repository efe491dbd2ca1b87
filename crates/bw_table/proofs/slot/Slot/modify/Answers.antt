use Rattle.std.proofs.Common.{rules}
use Rattle.bw_table.proofs.slot.Slot.modify.Goals as goal

pub returns-clause-slot : goal.returns-clause-slot
returns-clause-slot g c = search rules
