use Rattle.nifforan_forest.specs.Answers.{HaveNone}
use Rattle.nifforan_forest.proofs.worker.ForestWorker.next_at.Given as goal

abbrev pub invariant-loop-tree : goal.invariant-loop-tree
invariant-loop-tree g l = HaveNone (λ hand pair. g.H.Queries.comes_next hand l.key pair) l.self.hands.items l.first l.tree
