use Rattle.std.proofs.Common.{◌≡◌, ◌+◌, ◌-◌, ◌≤◌, ◌++◌, vec_capacity}
use Rattle.bw_law.specs.MorePages.{ids_from}
use Rattle.bw_table.proofs.free.FreeList.behind.Given as goal

abbrev pub invariant-loop-id : goal.invariant-loop-id
invariant-loop-id l = record {
  ids : l.ids.items ++ ids_from l.first (l.id - l.first) ≡ ids_from l.first l.more;
  room : l.first + l.more ≤ vec_capacity l.ids;
}
