use Rattle.std.proofs.Common.{◌+◌, ◌-◌, ◌*◌, ◌^◌}
use Rattle.nifforan.proofs.edge.page_above_leaf.Given as goal

abbrev pub decreases-down : goal.decreases-down
decreases-down g l = l.place.level * 2 ^ 65 + (2 ^ 64 - l.place.from)
