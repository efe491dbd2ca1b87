use Rattle.std.proofs.Common.{◌≡◌, ◌+◌, ◌*◌, ◌<◌, ◌≤◌, length}
use Rattle.bw_delta.specs.Entries.{below}
use Rattle.bw_delta.specs.Slices.{list_of}
use Rattle.bw_chain.proofs.entries.sorted.count_eighths.Given as goal

abbrev pub invariant-loop : goal.invariant-loop
invariant-loop g l =
    let count = length (below l.key (list_of l.entries)) in
    record {
      end : l.end ≡ l.place + l.counter * l.eighth;
      within : l.passed ≤ l.end;
      least : l.passed ≤ count;
      most : l.passed < l.end → count < l.passed + l.eighth;
    }
