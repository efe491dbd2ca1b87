use Rattle.std.proofs.Common.{length}
use Rattle.bw_delta.specs.Slices.{list_of}
use Rattle.bw_chain.specs.Ascends.{IsAscending}
use Rattle.bw_chain.specs.Passing.Edited.{IsFalling, edited}
use Rattle.bw_chain.proofs.Passing.Taking.{IsTaken}
use Rattle.bw_chain.proofs.pass.first.take_first.Given as goal

abbrev pub invariant-edits : goal.invariant-edits
invariant-edits g l =
    record {
      taken : IsTaken l.fn.first (edited l.edits (list_of l.entries)) (edited l.left (list_of l.rest)) l.first;
      ascending : IsAscending (list_of l.rest);
      falling : IsFalling l.left;
    }

abbrev pub decreases-edits : goal.decreases-edits
decreases-edits g l = length l.left
