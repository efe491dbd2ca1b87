use Rattle.std.specs.Prelude.{◌≤◌, ◌-◌}
use Rattle.bw_keys.specs.Ranges.{key_count}
use Rattle.bw_table.specs.Orders.{HasNoKeyWithin}
use Rattle.bw_table.proofs.table.Table.next_at.Given as goal

abbrev pub invariant-leaves : goal.invariant-leaves
invariant-leaves g l = record { later : l.key ≤ l.from; none : HasNoKeyWithin l.self l.key l.from }

abbrev pub decreases-leaves : goal.decreases-leaves
decreases-leaves g l = key_count - l.from
