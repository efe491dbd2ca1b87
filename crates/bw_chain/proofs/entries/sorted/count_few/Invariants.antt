use Rattle.std.proofs.Common.{◌≡◌, min, length}
use Rattle.bw_delta.specs.Entries.{below}
use Rattle.bw_delta.specs.Slices.{list_of}
use Rattle.bw_chain.proofs.entries.sorted.count_few.Given as goal

abbrev pub invariant-loop-place : goal.invariant-loop-place
invariant-loop-place g l = l.count ≡ min (length (below l.key (list_of l.entries))) l.place
