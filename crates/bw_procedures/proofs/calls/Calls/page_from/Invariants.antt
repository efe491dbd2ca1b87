use Rattle.std.proofs.Common.{◌≡◌, ◌-◌}
use Rattle.bw_procedures.specs.Facts.{quiet}
use Rattle.bw_procedures.specs.Calls.{OnlySpends}
use Rattle.bw_procedures.proofs.calls.Calls.page_from.Given as goal

abbrev pub invariant-again : goal.invariant-again
invariant-again g l = record {
  follows : g.Self.Steps.follows l.fn.self l.self;
  seen : OnlySpends (g.Self.Steps.seen l.fn.self) (g.Self.Steps.seen l.self);
  calm : g.Self.Steps.calm l.fn.self quiet → g.Self.Steps.calm l.self quiet;
  no_effort : g.Self.Steps.calm l.fn.self quiet → (g.Self.Steps.seen l.self).effort ≡ (g.Self.Steps.seen l.fn.self).effort;
}

abbrev pub decreases-again : goal.decreases-again
decreases-again g l = l.limit - (g.Self.Steps.seen l.self).effort
