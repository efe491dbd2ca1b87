use Rattle.nifforan.proofs.Reading.{IsSearch, keys_left}
use Rattle.nifforan.proofs.pairs.searched_from.Given as goal

abbrev pub invariant-leaves : goal.invariant-leaves
invariant-leaves g l = IsSearch l.table l.leaf l.key l.from

abbrev pub decreases-leaves : goal.decreases-leaves
decreases-leaves g l = keys_left l.leaf
