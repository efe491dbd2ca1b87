use Rattle.std.proofs.Common.{◌≡◌, ◌++◌, take}
use Rattle.std.specs.Prelude.{vec_capacity}
use Rattle.bw_delta.specs.Slices.{list_of}
use Rattle.bw_table.proofs.leaf.append_first.Given as goal

abbrev pub invariant-loop-place : goal.invariant-loop-place
invariant-loop-place l = record {
  appended : l.list.items ≡ l.fn.list.items ++ take l.place (list_of l.pairs);
  room : vec_capacity l.list ≡ vec_capacity l.fn.list;
}
