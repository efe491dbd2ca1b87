use Rattle.std.proofs.Common.{◌≡◌, ℕ, min, take}
use Rattle.bw_tree.specs.Stocks.{most}
use Rattle.nifforan_forest.specs.Answers.{HaveTogether}
use Rattle.nifforan_forest.proofs.worker.ForestWorker.len.Given as goal

abbrev pub invariant-loop-tree : goal.invariant-loop-tree
invariant-loop-tree g l = (all : ℕ) × HaveTogether g.H.Queries.has_pairs (take l.tree l.self.hands.items) all × (l.all ≡ min all most)
