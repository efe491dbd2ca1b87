use Rattle.std.proofs.Common.{arith}
use Rattle.bw_keys.specs.Ranges.{end_of}
use Rattle.nifforan_forest.proofs.Leaves.{below_more}
use Rattle.nifforan_forest.proofs.scan.append_below.Goals as goal

pub loop-count-preserved : goal.loop-count-preserved
loop-count-preserved c = record {
  few = omega (arith, c.loop-count-test.true);
  some = omega (arith, c.if-count-pairs.true);
  below =
      below_more (end_of c.args.high) c.args.pairs.now c.loop-count.count (0, 0) c.loop-count.invariant.below c.if-count-pairs.true
      (c.is_above.ensures.0 c.if-is_above.true);
}
