use Rattle.std.proofs.Common.{ℕ, ◌-◌, ◌<◌, ◌≤◌, min}
use Rattle.bw_keys.specs.Ranges.{key_count, end_of}
use Rattle.bw_procedures.specs.Seen.{Grows}
use Rattle.bw_procedures.specs.Clearing.{AddsRemovals, IsSwept}
use Rattle.bw_procedures.proofs.calls.Calls.clear.Given as goal

abbrev pub invariant-leaves : goal.invariant-leaves
invariant-leaves g l = record {
  follows : g.Self.Steps.follows l.fn.self l.self;
  grows : Grows (g.Self.Steps.seen l.fn.self) (g.Self.Steps.seen l.self);
  from_low : l.low ≤ l.at;
  receipts : AddsRemovals l.low (min l.at (end_of l.high)) l.removed (g.Self.Steps.seen l.fn.self) (g.Self.Steps.seen l.self);
  swept : (key : ℕ) → l.low ≤ key → key < l.at → key < end_of l.high → IsSwept g.Self.Steps.seen g.Self.Steps.follows g.Self.Steps.shows key l.fn.self l.self;
}

-- each leaf ends above the key that it was asked from
abbrev pub decreases-leaves : goal.decreases-leaves
decreases-leaves g l = key_count - l.at
