use Rattle.std.proofs.Common.{◌≡◌, ◌≤◌}
use Rattle.bw_delta.specs.Moves.{raised}
use Rattle.bw_delta.proofs.moves.move_few_up.Given as goal

abbrev pub invariant-up : goal.invariant-up
invariant-up g l =
    record {
      from : l.place ≤ l.at;
      upto : l.at ≤ l.last;
      keys : l.keys ≡ raised l.at l.fn.keys;
      values : l.values ≡ raised l.at l.fn.values;
    }

abbrev pub decreases-up : goal.decreases-up
decreases-up g l = l.at
