use Rattle.std.proofs.Common.{◌+◌, ◌≤◌, length}
use Rattle.bw_forest.specs.Bounds.{begun}
use Rattle.bw_forest.proofs.bounds.count_begun.Given as goal

abbrev pub invariant-quarters : goal.invariant-quarters
invariant-quarters l = record {
  inside : l.passed + l.left ≤ length l.lows;
  least : l.passed ≤ begun l.key l.lows;
  most : begun l.key l.lows ≤ l.passed + l.left;
}

abbrev pub decreases-quarters : goal.decreases-quarters
decreases-quarters l = l.left
