use Rattle.std.proofs.Common.{◌≡◌, take, drop, ◌++◌}
use Rattle.bw_delta.specs.Entries.{below, from}
use Rattle.bw_delta.specs.Slices.{list_of}
use Rattle.bw_chain.proofs.pass.around.count_before.Given as goal

abbrev pub invariant-loop-i : goal.invariant-loop-i
invariant-loop-i g l =
    let es = list_of l.entries in
    record {
      before : below l.key es ≡ take l.i es ++ below l.key (drop l.i es);
      after : from l.key es ≡ from l.key (drop l.i es);
    }
