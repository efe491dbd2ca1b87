use Rattle.std.proofs.Common.{arith}
use Rattle.bw_law.proofs.Count.{joined_count}
use Rattle.bw_law.proofs.the_book_counts_the_map.Goals as goal

pub returns : goal.returns
returns c = λ table law booked row is. omega (arith, booked, joined_count table.slots row is)
