use Rattle.std.proofs.Common.{◌≡◌, ◌+◌, ◌*◌, ◌≤◌, All}
use Rattle.std.specs.Vec.{vec_len, vec_capacity}
use Rattle.bw_tree.specs.Shares.{no_changes}
use Rattle.bw_tree.specs.Stocks.{most}
use Rattle.bw_tree.proofs.stock.Endowment.open.Given as goal

abbrev pub invariant-loop-tree : goal.invariant-loop-tree
invariant-loop-tree g l = record {
  insertions : (l.all_insertions.parts + l._tree ≡ l.trees + l.workers * l.trees) × (l.all_insertions.amount ≡ 0);
  removals : (l.all_removals.parts + l._tree ≡ l.trees + l.workers * l.trees) × (l.all_removals.amount ≡ 0);
  totals : (l.insertions.total ≡ l._tree * most) × (l.removals.total ≡ l._tree * most);
  room : (vec_len l.stocks ≡ l._tree) × (l.trees ≤ vec_capacity l.stocks);
  none : All (λ stock. stock ≡ no_changes) l.stocks.items;
}
