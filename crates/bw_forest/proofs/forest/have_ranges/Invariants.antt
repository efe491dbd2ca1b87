use Rattle.std.proofs.Common.{◌≡◌, ℕ, ◌<◌, slice_get}
use Rattle.bw_forest.specs.Bounds.{ranges_of}
use Rattle.bw_forest.specs.Forests.{ranges_in}
use Rattle.bw_forest.proofs.forest.have_ranges.Given as goal

abbrev pub invariant-loop-i : goal.invariant-loop-i
invariant-loop-i g l = (k : ℕ) → k < l.i → slice_get (ranges_in l.trees) k ≡ slice_get (ranges_of l.bounds) k
