use Rattle.std.proofs.Common.{rules}
use Rattle.bw_table.proofs.slot.Slot.todo.Goals as goal

pub returns-in-Marked : goal.returns-in-Marked
returns-in-Marked g c = search rules
