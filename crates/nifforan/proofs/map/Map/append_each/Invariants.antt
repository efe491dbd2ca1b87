use Rattle.std.proofs.Common.{◌≡◌, ◌++◌, length}
use Rattle.bw_delta.specs.Slices.{list_of}
use Rattle.nifforan.proofs.map.Map.append_each.Given as goal

abbrev pub invariant-pairs : goal.invariant-pairs
invariant-pairs g l =
    (l.self.pairs ++ list_of l.left ≡ l.fn.self.pairs ++ list_of l.fn.run) × (l.self.config ≡ l.fn.self.config)

abbrev pub decreases-pairs : goal.decreases-pairs
decreases-pairs g l = length (list_of l.left)
