use Rattle.std.proofs.Common.{arith}
use Rattle.bw_forest.proofs.Bounding.{begun_few}
use Rattle.bw_forest.proofs.bounds.count_begun.Goals as goal

pub quarters-init : goal.quarters-init
quarters-init c = record {
  inside = omega arith;
  least = omega arith;
  most = omega (arith, begun_few c.args.key c.args.lows.now);
}
