use Rattle.std.proofs.Common.{◌≡◌, take, Some}
use Rattle.bw_procedures.specs.declared.fault.Fault.TheVariants as faults
use Rattle.nifforan.specs.Calls.{set_all}
use Rattle.nifforan.specs.Growing.{HasAllPages}
use Rattle.nifforan_handle.specs.Reading.{are_pairs}
use Rattle.nifforan_handle.proofs.fill.set_each.Given as goal

abbrev pub invariant-loop-number : goal.invariant-loop-number
invariant-loop-number l =
    (l.map.pairs ≡ set_all (take l.number (are_pairs l.pairs)) l.fn.map.pairs) × (l.map.config ≡ l.fn.map.config)
    × (l.fault ≡ Some faults.TableFull → HasAllPages l.map)
