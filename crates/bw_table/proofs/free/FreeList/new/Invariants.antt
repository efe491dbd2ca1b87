use Rattle.std.proofs.Common.{◌≡◌, ◌≤◌, ◌++◌, vec_capacity}
use Rattle.bw_law.specs.Tables.{ids_down}
use Rattle.bw_table.proofs.free.FreeList.new.Given as goal

abbrev pub invariant-loop-id : goal.invariant-loop-id
invariant-loop-id l = record {
  ids : l.ids.items ++ ids_down l.id ≡ ids_down l.pages;
  room : l.pages ≤ vec_capacity l.ids;
}
