use Rattle.std.proofs.Common.{◌≡◌, ◌+◌, ◌≤◌, length, map, take, All}
use Rattle.std.specs.Vec.{vec_len, vec_capacity}
use Rattle.bw_tree.specs.Shares.{no_changes}
use Rattle.bw_forest.specs.Bounds.{ranges_of}
use Rattle.bw_forest.proofs.forest.plant.Given as goal

abbrev pub invariant-loop-i : goal.invariant-loop-i
invariant-loop-i g l = record {
  left : length l.stocks.items + l.i ≡ length l.bounds;
  none : All (λ stock. stock ≡ no_changes) l.stocks.items;
  placed : map (λ tree. tree.range) l.trees.items ≡ take l.i (ranges_of l.bounds);
  room : (vec_len l.trees ≡ l.i) × (length l.bounds ≤ vec_capacity l.trees);
}
