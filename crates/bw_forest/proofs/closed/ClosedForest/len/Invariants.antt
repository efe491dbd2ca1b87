use Rattle.std.proofs.Common.{◌≡◌, take}
use Rattle.std.specs.Prelude.{min}
use Rattle.bw_tree.specs.Stocks.{most}
use Rattle.bw_forest.specs.Forests.{pairs_of}
use Rattle.bw_forest.proofs.closed.ClosedForest.len.Given as goal

abbrev pub invariant-loop-i : goal.invariant-loop-i
invariant-loop-i g l = l.all ≡ min (pairs_of (take l.i l.self.tables)) most
