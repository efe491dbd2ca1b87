use Rattle.std.proofs.Common.{rules}
use Rattle.bw_table.proofs.slot.Slot.is_there.Goals as goal

pub returns-then-place-self : goal.returns-then-place-self
returns-then-place-self g c = search rules
