use Rattle.std.specs.Prelude.{◌≤◌, ◌+◌}
use Rattle.bw_table.specs.Orders.{HasNoKeyWithin}
use Rattle.bw_table.proofs.table.Table.previous_at.Given as goal

abbrev pub invariant-leaves : goal.invariant-leaves
invariant-leaves g l = record { earlier : l.upto ≤ l.key; none : HasNoKeyWithin l.self (l.upto + 1) (l.key + 1) }

abbrev pub decreases-leaves : goal.decreases-leaves
decreases-leaves g l = l.upto
