use Rattle.std.proofs.Common.{◌≡◌, ◌+◌, ◌≤◌, length, All}
use Rattle.std.specs.Prelude.{vec_capacity}
use Rattle.bw_tree.specs.Shares.{sum_of}
use Rattle.bw_tree.specs.Trees.{IsTree}
use Rattle.bw_forest.specs.Forests.{HasPairsWithin, books_of, tables_of}
use Rattle.bw_forest.proofs.forest.fell.Given as goal

abbrev pub invariant-loop-tree : goal.invariant-loop-tree
invariant-loop-tree g l = record {
  left : length l.felled.items + length l.tree-iterator.rest.items ≡ length l.fn.trees.items;
  room : length l.fn.trees.items ≤ vec_capacity l.felled;
  trees : All IsTree (tables_of l.felled.items);
  config : All (λ table. table.config ≡ g.I.MadeBy.config) (tables_of l.felled.items);
  within : All HasPairsWithin l.felled.items;
  totals : l.totals ≡ record l.fn.totals { back = length l.felled.items; counted = sum_of (books_of (tables_of l.felled.items)) };
}
