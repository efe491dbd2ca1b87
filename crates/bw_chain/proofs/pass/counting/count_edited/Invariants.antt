use Rattle.std.proofs.Common.{◌≡◌, ◌+◌, ◌-◌, ◌^◌, ◌≤◌, min, length}
use Rattle.bw_delta.specs.Slices.{list_of}
use Rattle.bw_chain.specs.Ascends.{IsAscending}
use Rattle.bw_chain.specs.Passing.Edited.{IsFalling, edited}
use Rattle.bw_chain.proofs.pass.counting.count_edited.Given as goal

abbrev pub invariant-edits : goal.invariant-edits
invariant-edits g l =
    record {
      fits : l.sum ≤ 2 ^ 64 - 1;
      counted : min (l.sum + length (edited l.left (list_of l.rest))) (2 ^ 64 - 1) ≡ min (l.count + length (edited l.edits (list_of l.entries))) (2 ^ 64 - 1);
      ascending : IsAscending (list_of l.rest);
      falling : IsFalling l.left;
    }

abbrev pub decreases-edits : goal.decreases-edits
decreases-edits g l = length l.left
