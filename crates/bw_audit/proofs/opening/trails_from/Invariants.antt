use Rattle.std.proofs.Common.{◌≡◌, ◌++◌, drop, length, map}
use Rattle.bw_step.specs.Trails.{lists_of}
use Rattle.bw_audit.specs.Opened.{recounted, trails_from}
use Rattle.bw_audit.proofs.opening.trails_from.Given as goal

abbrev pub invariant-loop-trail : goal.invariant-loop-trail
invariant-loop-trail l =
    lists_of l.all.items
    ++ map (map (recounted l.opening.number (length l.opening.pairs.items))) (lists_of (drop l.trail-index l.trails))
    ≡ trails_from l.opening.number l.opening.pairs.items (lists_of l.trails)
