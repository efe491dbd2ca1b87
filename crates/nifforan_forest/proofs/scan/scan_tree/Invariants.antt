use Rattle.std.proofs.Common.{◌≡◌, ℕ, ◌-◌, ◌<◌, ◌≤◌, ◌++◌, min, List, length}
use Rattle.bw_keys.specs.Ranges.{end_of, key_count}
use Rattle.bw_procedures.specs.Calls.{OnlySpends}
use Rattle.nifforan_forest.specs.Reads.{Reads, WasThere}
use Rattle.nifforan_forest.proofs.scan.scan_tree.Given as goal

abbrev pub invariant-leaves : goal.invariant-leaves
invariant-leaves g l = record {
  follows : g.H.Steps.follows l.fn.hand l.hand;
  spends : OnlySpends (g.H.Steps.seen l.fn.hand) (g.H.Steps.seen l.hand);
  from_low : l.low ≤ l.at;
  few : l.count ≤ l.limit;
  added : (added : List (ℕ × ℕ)) × (l.list.items ≡ l.fn.list.items ++ added) × (length added ≡ l.count)
      × ((reached : ℕ) × Reads (λ key found. WasThere g.H.Steps.follows g.H.Steps.shows key found l.fn.hand l.hand) l.low reached added
      × (l.low ≤ reached) × (reached ≤ end_of l.high) × (l.count < l.limit → reached ≡ min l.at (end_of l.high)));
}

-- each leaf ends above the key that it was asked from
abbrev pub decreases-leaves : goal.decreases-leaves
decreases-leaves g l = key_count - l.at
