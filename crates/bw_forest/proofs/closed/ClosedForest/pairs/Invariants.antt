use Rattle.std.proofs.Common.{take}
use Rattle.bw_forest.specs.Forests.{AreInARow}
use Rattle.bw_forest.proofs.closed.ClosedForest.pairs.Given as goal

abbrev pub invariant-loop-i : goal.invariant-loop-i
invariant-loop-i g l = AreInARow (take l.i l.self.tables) l.all.items
