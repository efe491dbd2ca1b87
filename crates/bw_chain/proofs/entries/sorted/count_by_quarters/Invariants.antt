use Rattle.std.proofs.Common.{◌+◌, ◌≤◌, length}
use Rattle.bw_delta.specs.Entries.{below}
use Rattle.bw_delta.specs.Slices.{list_of}
use Rattle.bw_chain.proofs.entries.sorted.count_by_quarters.Given as goal

abbrev pub invariant-quarters : goal.invariant-quarters
invariant-quarters g l =
    let es = list_of l.entries in
    record {
      inside : l.passed + l.left ≤ length es;
      least : l.passed ≤ length (below l.key es);
      most : length (below l.key es) ≤ l.passed + l.left;
    }

abbrev pub decreases-quarters : goal.decreases-quarters
decreases-quarters g l = l.left
