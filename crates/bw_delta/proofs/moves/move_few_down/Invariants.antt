use Rattle.std.proofs.Common.{◌≡◌, ◌≤◌, ◌-◌}
use Rattle.bw_delta.specs.Moves.{lowered}
use Rattle.bw_delta.proofs.moves.move_few_down.Given as goal

abbrev pub invariant-down : goal.invariant-down
invariant-down g l =
    record {
      from : l.place ≤ l.at;
      upto : l.at ≤ l.last;
      keys : l.keys ≡ lowered l.place l.at l.fn.keys;
      values : l.values ≡ lowered l.place l.at l.fn.values;
    }

abbrev pub decreases-down : goal.decreases-down
decreases-down g l = l.last - l.at
