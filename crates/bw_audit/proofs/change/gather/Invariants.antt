use Rattle.std.proofs.Common.{◌≡◌, ◌++◌, drop, map}
use Rattle.bw_audit.specs.Changes.{all_changes}
use Rattle.bw_audit.proofs.change.gather.Given as goal

abbrev pub invariant-loop-trail : goal.invariant-loop-trail
invariant-loop-trail l = l.changes.items ++ all_changes (map (λ t. t.items) (drop l.trail-index l.trails)) ≡ all_changes (map (λ t. t.items) l.trails)
