use Rattle.std.proofs.Common.{◌≡◌, ℕ, ◌-◌, ◌<◌, ◌≤◌, min}
use Rattle.bw_keys.specs.Ranges.{end_of, key_count}
use Rattle.bw_tree.specs.Stocks.{most}
use Rattle.nifforan_forest.specs.Clears.{Removes, SweepsKey, Together}
use Rattle.nifforan_forest.proofs.worker.ForestWorker.clear.Given as goal

abbrev pub invariant-trees : goal.invariant-trees
invariant-trees g l = record {
  from_low : l.low ≤ l.at;
  removes : (count : ℕ)
      × Together (Removes g.H.Steps.seen g.H.Steps.follows g.H.ForestHand.range l.low (min l.at (end_of l.high)))
      l.fn.self.hands.items l.self.hands.items count × (l.removed ≡ min count most);
  swept : (key : ℕ) → l.low ≤ key → key < l.at → key < end_of l.high
      → SweepsKey g.H.ForestHand.bounds g.H.Steps.seen g.H.Steps.follows g.H.Steps.shows key l.fn.self.hands.items l.self.hands.items;
}

-- each range ends above the key that it holds
abbrev pub decreases-trees : goal.decreases-trees
decreases-trees g l = key_count - l.at
