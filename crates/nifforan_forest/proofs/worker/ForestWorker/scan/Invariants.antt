use Rattle.std.proofs.Common.{◌≡◌, ℕ, ◌+◌, ◌-◌, ◌<◌, ◌≤◌, ◌++◌, List, length}
use Rattle.bw_keys.specs.Ranges.{key_count}
use Rattle.nifforan_forest.specs.Reads.{Reads, WasThereInItsTree}
use Rattle.nifforan_forest.specs.Scans.{EachSpends}
use Rattle.nifforan_forest.proofs.worker.ForestWorker.scan.Given as goal

abbrev pub invariant-trees : goal.invariant-trees
invariant-trees g l = record {
  spends : EachSpends g.H.Steps.seen g.H.Steps.follows l.fn.self.hands.items l.self.hands.items;
  from_low : l.low ≤ l.at;
  added : (added : List (ℕ × ℕ)) × (l.list.items ≡ l.fn.list.items ++ added) × (length added + l.left ≡ l.limit)
      × ((reached : ℕ)
      × Reads (λ key found. WasThereInItsTree g.H.ForestHand.bounds g.H.Steps.follows g.H.Steps.shows key found l.fn.self.hands.items
      l.self.hands.items) l.low reached added
      × (l.low ≤ reached) × (reached ≤ key_count) × (0 < l.left → reached ≡ l.at));
}

-- each range ends above the key that it holds
abbrev pub decreases-trees : goal.decreases-trees
decreases-trees g l = key_count - l.at
