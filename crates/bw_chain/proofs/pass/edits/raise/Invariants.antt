use Rattle.std.proofs.Common.{◌≡◌, ◌≤◌, ◌+◌, ◌++◌, true, length, take, drop}
use Rattle.bw_chain.specs.Passing.Edited.{falls}
use Rattle.bw_chain.proofs.pass.edits.raise.Given as goal

abbrev pub invariant-up : goal.invariant-up
invariant-up g l =
    record {
      upto : l.i ≤ l.count;
      as_many : length l.edits ≡ length l.fn.edits;
      before : take l.i l.edits ≡ take l.i l.fn.edits;
      behind : drop (l.i + 1) l.edits ≡ drop l.i (take l.count l.fn.edits) ++ drop (l.count + 1) l.fn.edits;
      smaller : falls 0 l.key (drop l.i (take l.count l.fn.edits)) ≡ true;
    }

abbrev pub decreases-up : goal.decreases-up
decreases-up g l = l.i
