use Rattle.std.proofs.Common.{◌≤◌}
use Rattle.std.specs.Vec.{vec_capacity}
use Rattle.nifforan_balance.proofs.Dividing.{BeginUpto}
use Rattle.nifforan_balance.proofs.balancing.lows.Given as goal

abbrev pub invariant-loop-tree : goal.invariant-loop-tree
invariant-loop-tree l = record {
  so : BeginUpto l.pairs l.trees l.tree l.lows.items;
  room : l.trees ≤ vec_capacity l.lows;
}
