use Rattle.std.proofs.Common.{◌≡◌, ◌≤◌, Some, length}
use Rattle.bw_procedures.specs.declared.fault.Fault.TheVariants as faults
use Rattle.nifforan.specs.Growing.{HasAllPages}
use Rattle.nifforan.specs.Maps.{within}
use denote.Param.Always.{always_mut}
use Rattle.bw_keys.specs.Ranges.{end_of}
use Rattle.nifforan.proofs.Updates.{IsUpdated}
use Rattle.nifforan.proofs.map.Map.update_each.Given as goal

abbrev pub invariant-loop-pair : goal.invariant-loop-pair
invariant-loop-pair g l =
    always_mut g.F.FnMut l.new
    × IsUpdated (λ f pair value h. goal.F-step g f pair.0 pair.1 value h) l.fn.new l.new (end_of l.fn.low) (end_of l.fn.high)
    (end_of l.next) l.fn.self.pairs l.self.pairs
    × (l.self.config ≡ l.fn.self.config) × (l.fn.self.pages ≤ l.self.pages) × (l.fault ≡ Some faults.TableFull → HasAllPages l.self)

abbrev pub decreases-loop-pair : goal.decreases-loop-pair
decreases-loop-pair g l = length (within (end_of l.next) (end_of l.high) l.self.pairs)
