use Rattle.std.proofs.Common.{◌≡◌, ◌≤◌, Some, length}
use Rattle.bw_procedures.specs.declared.fault.Fault.TheVariants as faults
use Rattle.nifforan.specs.Growing.{HasAllPages}
use denote.Param.Always.{always_mut}
use Rattle.bw_keys.specs.Ranges.{end_of}
use Rattle.nifforan.proofs.Retains.{IsRetained}
use Rattle.nifforan.proofs.map.Map.retain_each.Given as goal

abbrev pub invariant-loop-key : goal.invariant-loop-key
invariant-loop-key g l =
    always_mut g.F.FnMut l.keep × IsRetained (λ f pair stays h. goal.F-step g f pair.0 pair.1 stays h) l.fn.keep l.keep (end_of l.low) l.fn.self.pairs l.self.pairs
    × (l.self.config ≡ l.fn.self.config) × (l.fn.self.pages ≤ l.self.pages) × (l.fault ≡ Some faults.TableFull → HasAllPages l.self)

abbrev pub decreases-loop-key : goal.decreases-loop-key
decreases-loop-key g l = length l.self.pairs
