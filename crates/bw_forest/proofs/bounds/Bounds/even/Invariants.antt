use Rattle.std.proofs.Common.{◌≡◌, ℕ, ◌*◌, ◌<◌, ◌≤◌}
use Rattle.std.specs.Prelude.{slice_index}
use Rattle.std.specs.Vec.{vec_capacity, vec_len}
use Rattle.bw_forest.proofs.bounds.Bounds.even.Given as goal

abbrev pub invariant-loop-i : goal.invariant-loop-i
invariant-loop-i l = record {
  room : (vec_len l.lows ≡ l.i) × (l.trees ≤ vec_capacity l.lows);
  even : (tree : ℕ) → tree < l.i → slice_index l.lows.items tree ≡ tree * l.width;
}
