use Rattle.std.proofs.Common.{arith}
use Rattle.bw_delta.specs.Slices.{list_of}
use Rattle.bw_chain.proofs.Sorted.{below-few}
use Rattle.bw_chain.proofs.entries.sorted.count_few.Goals as goal

pub loop-place-preserved : goal.loop-place-preserved
loop-place-preserved g c = omega arith

pub returns : goal.returns
returns g c = omega (arith, below-few c.args.key (list_of c.args.entries))
