use Rattle.std.proofs.Common.{◌≤◌, length}
use Rattle.bw_delta.specs.Slices.{list_of}
use Rattle.nifforan.proofs.pairs.count_under.Given as goal

abbrev pub invariant-halves : goal.invariant-halves
invariant-halves l = (l.count ≤ length (list_of l.lent)) × (l.count ≤ l.most)

abbrev pub decreases-halves : goal.decreases-halves
decreases-halves l = l.count
