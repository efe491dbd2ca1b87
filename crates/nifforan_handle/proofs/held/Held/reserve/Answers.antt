use Rattle.std.proofs.Common.{rules, ap}
use Rattle.std.specs.Prelude.{Err}
use Rattle.nifforan_handle.proofs.held.Held.reserve.Goals as goal

pub returns-in-Err : goal.returns-in-Err
returns-in-Err c = record {
  closed = search rules;
  frozen = search rules;
  memory = search rules;
  full = λ full. rw c.in-Own.is (c.in-Err.ensures.full (ap Err (c.of_fault.ensures.full full)));
  many = search rules;
  room = search rules;
  pairs = search rules;
  config = search rules;
  free = search rules;
  own = search rules;
  unchanged = search rules;
}
