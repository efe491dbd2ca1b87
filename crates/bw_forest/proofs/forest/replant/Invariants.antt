use Rattle.std.proofs.Common.{◌≡◌, ◌+◌, ◌++◌, ◌≤◌, length, map, All}
use Rattle.std.specs.Prelude.{vec_capacity}
use Rattle.bw_tree.specs.Shares.{no_changes}
use Rattle.bw_forest.specs.Forests.{books_of, ranges_in, tables_of}
use Rattle.bw_forest.proofs.forest.replant.Given as goal

abbrev pub invariant-loop-tree : goal.invariant-loop-tree
invariant-loop-tree g l = record {
  left : length l.trees.items + length l.tree-iterator.rest.items ≡ length l.fn.closed.items;
  count : length l.opening.items ≡ length l.trees.items;
  stocks : length l.stocks.items ≡ length l.tree-iterator.rest.items;
  none_counted : All (λ stock. stock ≡ no_changes) l.stocks.items;
  shares : length l.shares.items ≡ length l.tree-iterator.rest.items;
  none_changed : All (λ share. share ≡ no_changes) l.shares.items;
  alike : All (λ table. table.config ≡ g.I.MadeBy.config) (tables_of l.tree-iterator.rest.items);
  ranges : map (λ tree. tree.range) l.trees.items ++ ranges_in l.tree-iterator.rest.items ≡ ranges_in l.fn.closed.items;
  books : l.opening.items ++ books_of (tables_of l.tree-iterator.rest.items) ≡ books_of (tables_of l.fn.closed.items);
  room : (length l.fn.closed.items ≤ vec_capacity l.trees) × (length l.fn.closed.items ≤ vec_capacity l.opening);
}
