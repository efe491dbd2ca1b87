use Rattle.std.proofs.Common.{length, ◌-◌}
use Rattle.nifforan_handle.proofs.Filling.{IsFilledBack}
use Rattle.nifforan_handle.proofs.read.fill_back.Given as goal

abbrev pub invariant-loop-count : goal.invariant-loop-count
invariant-loop-count l = IsFilledBack l.fn.places l.places l.fn.left l.left l.count

abbrev pub decreases-loop-count : goal.decreases-loop-count
decreases-loop-count l = length l.initial.places - l.count
