use Rattle.std.proofs.Common.{◌≡◌, ◌≤◌, ◌+◌, ◌++◌, length, take}
use Rattle.std.specs.List.{zip}
use Rattle.bw_delta.specs.Slices.{list_of}
use Rattle.bw_chain.specs.Ascends.{IsAscending}
use Rattle.bw_chain.specs.Passing.Edited.{IsFalling, edited, put_count}
use Rattle.bw_chain.proofs.pass.writing.write_edited.Given as goal

abbrev pub invariant-edits : goal.invariant-edits
invariant-edits g l =
    record {
      done : take l.end (zip l.keys l.values) ++ edited l.left (list_of l.rest) ≡ take l.start (zip l.fn.keys l.fn.values) ++ edited l.edits (list_of l.entries);
      room : l.end + length (list_of l.rest) + put_count l.left ≤ length l.keys;
      as_many : length l.keys ≡ length l.fn.keys;
      even : length l.values ≡ length l.keys;
      ascending : IsAscending (list_of l.rest);
      falling : IsFalling l.left;
    }

abbrev pub decreases-edits : goal.decreases-edits
decreases-edits g l = length l.left
