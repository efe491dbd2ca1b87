use Rattle.std.proofs.Common.{◌≡◌, ◌≤◌, ◌+◌, ◌-◌, ◌++◌, length, take, drop}
use Rattle.std.specs.List.{zip}
use Rattle.bw_delta.specs.Entries.{below, from}
use Rattle.bw_delta.specs.Slices.{list_of}
use Rattle.bw_chain.proofs.pass.writing.copy_by_twos.Given as goal

abbrev pub invariant-twos : goal.invariant-twos
invariant-twos g l =
    let es = list_of l.entries in
    record {
      within : l.i ≤ length es;
      before : below l.key es ≡ take l.i es ++ below l.key (drop l.i es);
      after : from l.key es ≡ from l.key (drop l.i es);
      as_many : length l.keys ≡ length l.fn.keys;
      even : length l.values ≡ length l.keys;
      written : take (l.place + l.i) (zip l.keys l.values) ≡ take l.place (zip l.fn.keys l.fn.values) ++ take l.i es;
    }

abbrev pub decreases-twos : goal.decreases-twos
decreases-twos g l = length (list_of l.entries) - l.i
