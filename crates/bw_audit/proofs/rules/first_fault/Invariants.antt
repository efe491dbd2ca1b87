use Rattle.std.proofs.Common.{◌≡◌, ◌+◌, drop, length, map}
use Rattle.bw_audit.specs.Changes.{all_changes}
use Rattle.bw_audit.specs.Verdicts.{first_fault}
use Rattle.bw_audit.proofs.rules.first_fault.Given as goal

abbrev pub invariant-loop-worker : goal.invariant-loop-worker
invariant-loop-worker l = record {
  counted : l.before + length (all_changes (map (λ t. t.items) (drop l.worker l.trails))) ≡ length (all_changes (map (λ t. t.items) l.trails));
  same : first_fault l.index l.before l.worker (map (λ t. t.items) (drop l.worker l.trails)) ≡ first_fault l.index 0 0 (map (λ t. t.items) l.trails);
}
