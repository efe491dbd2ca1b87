use Rattle.std.proofs.Common.{◌≡◌, ◌+◌, ◌++◌, length, take}
use Rattle.bw_delta.specs.Slices.{list_of}
use Rattle.bw_chain.proofs.pass.runs.write_run.Given as goal

abbrev pub invariant-loop-i : goal.invariant-loop-i
invariant-loop-i l =
    record {
      as_many : length l.list ≡ length l.fn.list;
      written : take (l.place + l.i) l.list ≡ take l.place l.fn.list ++ take l.i (list_of l.run);
    }
