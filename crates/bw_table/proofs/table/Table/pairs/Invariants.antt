use Rattle.bw_law.specs.Tables.{joined_pairs}
use Rattle.bw_table.proofs.RowWalk.{IsListedBefore, keys_left}
use Rattle.bw_table.proofs.table.Table.pairs.Given as goal

abbrev pub invariant-leaves : goal.invariant-leaves
invariant-leaves g l = IsListedBefore l.self (joined_pairs l.self.slots) l.next l.pairs.items

abbrev pub decreases-leaves : goal.decreases-leaves
decreases-leaves g l = keys_left l.self.slots l.next
