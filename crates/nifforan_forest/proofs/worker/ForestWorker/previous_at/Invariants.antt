use Rattle.std.proofs.Common.{ℕ, ◌+◌, ◌≤◌, length}
use Rattle.bw_forest.specs.Bounds.{IsTreeOf}
use Rattle.nifforan_forest.specs.Answers.{HaveNone}
use Rattle.nifforan_forest.proofs.worker.ForestWorker.previous_at.Given as goal

abbrev pub invariant-trees : goal.invariant-trees
invariant-trees g l = record {
  none : (last : ℕ) × IsTreeOf g.H.ForestHand.bounds l.key last × (l.end ≤ last + 1) × HaveNone
      (λ hand pair. g.H.Queries.comes_before hand l.key pair) l.self.hands.items l.end (last + 1);
  there : l.end ≤ length l.self.hands.items;
}

abbrev pub decreases-trees : goal.decreases-trees
decreases-trees g l = l.end
