use Rattle.std.proofs.Common.{◌≡◌, ◌++◌, drop}
use Rattle.bw_audit.specs.Changes.{changes_of}
use Rattle.bw_audit.proofs.change.gather_trail.Given as goal

abbrev pub invariant-loop-receipt : goal.invariant-loop-receipt
invariant-loop-receipt l = l.changes.items ++ changes_of (drop l.receipt-index l.trail) ≡ l.initial.changes.items ++ changes_of l.trail
