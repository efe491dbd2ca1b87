use Rattle.std.proofs.Common.{◌≡◌, ◌-◌, min}
use Rattle.bw_forest.specs.Bounds.{begun}
use Rattle.bw_forest.proofs.bounds.count_few.Given as goal

abbrev pub invariant-loop-number : goal.invariant-loop-number
invariant-loop-number l = l.count ≡ min (begun l.key l.lows - l.place) l.number
