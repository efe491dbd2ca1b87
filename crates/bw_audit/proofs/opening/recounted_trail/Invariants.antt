use Rattle.std.proofs.Common.{◌≡◌, ◌++◌, drop, length, map}
use Rattle.bw_audit.specs.Opened.{recounted}
use Rattle.bw_audit.proofs.opening.recounted_trail.Given as goal

abbrev pub invariant-loop-receipt : goal.invariant-loop-receipt
invariant-loop-receipt l =
    l.moved.items ++ map (recounted l.opening.number (length l.opening.pairs.items)) (drop l.receipt-index l.trail)
    ≡ map (recounted l.opening.number (length l.opening.pairs.items)) l.trail
