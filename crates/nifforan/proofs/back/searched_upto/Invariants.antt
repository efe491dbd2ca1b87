use Rattle.nifforan.proofs.Behind.{IsSearchBack, back_left}
use Rattle.nifforan.proofs.back.searched_upto.Given as goal

abbrev pub invariant-leaves : goal.invariant-leaves
invariant-leaves g l = IsSearchBack l.table l.leaf l.key l.upto

abbrev pub decreases-leaves : goal.decreases-leaves
decreases-leaves g l = back_left l.leaf l.upto
