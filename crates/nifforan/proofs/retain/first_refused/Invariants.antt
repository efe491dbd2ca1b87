use Rattle.std.proofs.Common.{ℕ, Option}
use denote.Param.Always.{always_mut}
use Rattle.nifforan.specs.Retaining.{Refuses}
use Rattle.nifforan.proofs.retain.first_refused.Given as goal

abbrev pub invariant-loop-key : goal.invariant-loop-key
invariant-loop-key g l =
    (goal.iterator-loop-key g).can_next l.pairs × (goal.iterator-loop-key g).is_finite l.pairs × always_mut g.F.FnMut l.keep
    × ((found : Option ℕ) (last : _) → Refuses (λ f pair stays h. goal.F-step g f pair.0 pair.1 stays h) found l.keep l.pairs last
    → Refuses (λ f pair stays h. goal.F-step g f pair.0 pair.1 stays h) found l.fn.keep l.fn.pairs last)
