use Rattle.std.proofs.Common.{arith}
use Rattle.bw_delta.specs.Slices.{list_of}
use Rattle.bw_chain.proofs.Sorted.{below-few}
use Rattle.bw_chain.proofs.entries.sorted.count_by_quarters.Goals as goal

pub quarters-init : goal.quarters-init
quarters-init g c = record {
  inside = omega arith;
  least = omega arith;
  most = omega (arith, below-few c.args.key (list_of c.args.entries));
}
