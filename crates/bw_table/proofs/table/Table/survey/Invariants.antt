use Rattle.std.proofs.Common.{map}
use Rattle.bw_table.specs.Views.{leaf_at}
use Rattle.bw_table.proofs.RowWalk.{IsListedBefore, keys_left}
use Rattle.bw_table.proofs.table.Table.survey.Given as goal

abbrev pub invariant-leaves : goal.invariant-leaves
invariant-leaves g l = IsListedBefore l.self (map (leaf_at l.self.slots)) l.next l.leaves.items

abbrev pub decreases-leaves : goal.decreases-leaves
decreases-leaves g l = keys_left l.self.slots l.next
