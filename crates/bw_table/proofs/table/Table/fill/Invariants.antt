use Rattle.std.specs.Prelude.{◌≤◌, vec_capacity}
use Rattle.bw_law.specs.Tables.{Lawful}
use Rattle.bw_table.proofs.Listings.{IsListedUpTo}
use Rattle.bw_table.proofs.RowWalk.{keys_left}
use Rattle.bw_table.proofs.table.Table.fill.Given as goal

abbrev pub invariant-leaves : goal.invariant-leaves
invariant-leaves g l = record {
  lawful : Lawful l.self;
  up_to : IsListedUpTo l.self l.low l.limit l.next l.listed.items;
  capacity : vec_capacity l.fn.list ≤ vec_capacity l.listed;
}

abbrev pub decreases-leaves : goal.decreases-leaves
decreases-leaves g l = keys_left l.self.slots l.next
