use Rattle.std.proofs.Common.{length, ◌-◌}
use Rattle.nifforan_handle.proofs.Filling.{IsFilledUpto}
use Rattle.nifforan_handle.proofs.read.fill.Given as goal

abbrev pub invariant-loop-count : goal.invariant-loop-count
invariant-loop-count l = IsFilledUpto l.fn.places l.places l.fn.left l.left l.count

abbrev pub decreases-loop-count : goal.decreases-loop-count
decreases-loop-count l = length l.places - l.count
