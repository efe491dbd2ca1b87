use Rattle.std.proofs.Common.{◌≡◌, ◌+◌, ◌++◌, ◌≤◌, All, length, take}
use Rattle.std.specs.Prelude.{vec_capacity}
use Rattle.bw_forest.specs.Bounds.{ranges_of}
use Rattle.bw_tree.specs.Trees.{IsTree}
use Rattle.bw_forest.specs.Forests.{HasPairsWithin, ranges_in, tables_of}
use Rattle.bw_forest.proofs.fitting.join.Given as goal

abbrev pub invariant-loop-table : goal.invariant-loop-table
invariant-loop-table g l = record {
  count : length l.trees.items + length l.table-iterator.rest.items ≡ length l.fn.tables.items;
  tables : tables_of l.trees.items ++ l.table-iterator.rest.items ≡ l.fn.tables.items;
  ranges : ranges_in l.trees.items ≡ take (length l.trees.items) (ranges_of l.bounds);
  each : All IsTree (tables_of l.trees.items);
  within : All HasPairsWithin l.trees.items;
  room : length l.fn.tables.items ≤ vec_capacity l.trees;
}
