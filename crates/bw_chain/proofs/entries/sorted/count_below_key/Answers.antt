use Rattle.std.proofs.Common.{arith}
use Rattle.bw_delta.specs.Slices.{list_of}
use Rattle.bw_chain.proofs.Sorted.{below-few}
use Rattle.bw_chain.proofs.entries.sorted.count_below_key.Goals as goal

pub returns-in-Some : goal.returns-in-Some
returns-in-Some g c = omega (arith, c.in-Some.ensures, below-few c.args.key (list_of c.args.entries))

pub count_eight-requires-clause-inside : goal.count_eight-requires-clause-inside
count_eight-requires-clause-inside g c = omega (arith, c.in-Some.ensures)
