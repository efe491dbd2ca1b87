use Rattle.std.proofs.Common.{◌≡◌, ◌≤◌, Some}
use Rattle.bw_procedures.specs.declared.fault.Fault.TheVariants as faults
use Rattle.nifforan.specs.Calls.{set_all}
use Rattle.nifforan.specs.Growing.{HasAllPages}
use Rattle.nifforan.proofs.map.Map.set_each.Given as goal

abbrev pub invariant-loop-key : goal.invariant-loop-key
invariant-loop-key g l =
    (goal.iterator-loop-key g).can_next l.left × (goal.iterator-loop-key g).is_finite l.left
    × (l.self.pairs ≡ set_all l.yielded l.fn.self.pairs) × (l.self.config ≡ l.fn.self.config) × (l.fn.self.pages ≤ l.self.pages)
    × (l.fault ≡ Some faults.TableFull → HasAllPages l.self)
