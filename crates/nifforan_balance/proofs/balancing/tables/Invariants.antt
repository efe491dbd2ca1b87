use Rattle.std.proofs.Common.{◌≡◌, ◌≤◌, length}
use Rattle.std.specs.Vec.{vec_capacity}
use Rattle.nifforan_balance.specs.Balancing.{HaveParts}
use Rattle.nifforan_balance.proofs.balancing.tables.Given as goal

abbrev pub invariant-loop-tree : goal.invariant-loop-tree
invariant-loop-tree l = record {
  number : length l.tables.items ≡ l.tree;
  parts : HaveParts l.config l.pairs l.trees l.tables.items;
  room : l.trees ≤ vec_capacity l.tables;
}
