use Rattle.std.proofs.Common.{◌≡◌, ◌≤◌, take}
use Rattle.bw_chain.specs.Passing.Edited.{put_count}
use Rattle.bw_chain.proofs.pass.writing.count_puts.Given as goal

abbrev pub invariant-loop-i : goal.invariant-loop-i
invariant-loop-i g l =
    record {
      counted : l.count ≡ put_count (take l.i l.edits);
      few : l.count ≤ l.i;
    }
