use Rattle.std.proofs.Common.{◌≡◌, ◌++◌, length}
use Rattle.bw_delta.specs.Slices.{list_of}
use Rattle.bw_chain.specs.Ascends.{IsAscending}
use Rattle.bw_chain.specs.Passing.Edited.{IsFalling, edited}
use Rattle.bw_chain.proofs.pass.runs.append_edited.Given as goal

abbrev pub invariant-edits : goal.invariant-edits
invariant-edits g l =
    record {
      done : l.list.items ++ edited l.left (list_of l.rest) ≡ l.fn.list.items ++ edited l.edits (list_of l.entries);
      ascending : IsAscending (list_of l.rest);
      falling : IsFalling l.left;
    }

abbrev pub decreases-edits : goal.decreases-edits
decreases-edits g l = length l.left
