use Rattle.std.proofs.Common.{◌≡◌, length}
use Rattle.nifforan.specs.Maps.{are_same}
use Rattle.nifforan.proofs.compare.have_same.Given as goal

abbrev pub invariant-loop-pair : goal.invariant-loop-pair
invariant-loop-pair g l = (are_same l.fn.left l.fn.right ≡ are_same l.left l.right) × (length l.left ≡ length l.right)

abbrev pub decreases-loop-pair : goal.decreases-loop-pair
decreases-loop-pair g l = length l.left
