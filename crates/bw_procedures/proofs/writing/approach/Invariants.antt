use Rattle.std.proofs.Common.{◌+◌, ◌-◌, ◌*◌, ◌^◌}
use Rattle.bw_procedures.specs.Calls.{OnlySpends}
use Rattle.bw_procedures.proofs.writing.approach.Given as goal

abbrev pub invariant-down : goal.invariant-down
invariant-down g l = record {
  follows : g.S.Steps.follows l.fn.steps l.steps;
  seen : OnlySpends (g.S.Steps.seen l.fn.steps) (g.S.Steps.seen l.steps);
}

-- each place is on a lower level, or further right on the same
abbrev pub decreases-down : goal.decreases-down
decreases-down g l = l.place.level * (2 ^ 64 + 1) + (2 ^ 64 - l.place.from)
