use Rattle.std.proofs.Common.{ℕ, ◌<◌}
use Rattle.bw_forest.specs.Fitting.{IsAlike}
use Rattle.bw_forest.proofs.fitting.first_unlike.Given as goal

abbrev pub invariant-loop-i : goal.invariant-loop-i
invariant-loop-i g l = (k : ℕ) → k < l.i → IsAlike l.tables k
