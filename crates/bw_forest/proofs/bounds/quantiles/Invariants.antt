use Rattle.std.proofs.Common.{◌≤◌}
use Rattle.std.specs.Vec.{vec_capacity}
use Rattle.bw_forest.proofs.Quantiles.{SoFar}
use Rattle.bw_forest.proofs.bounds.quantiles.Given as goal

abbrev pub invariant-loop-i : goal.invariant-loop-i
invariant-loop-i l = record {
  so : SoFar l.sorted l.trees l.i l.last l.lows.items;
  room : l.trees ≤ vec_capacity l.lows;
}
