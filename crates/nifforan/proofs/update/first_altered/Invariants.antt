use Rattle.std.proofs.Common.{ℕ, Option}
use denote.Param.Always.{always_mut}
use Rattle.nifforan.specs.Updating.{Alters}
use Rattle.nifforan.proofs.update.first_altered.Given as goal

abbrev pub invariant-loop-key : goal.invariant-loop-key
invariant-loop-key g l =
    (goal.iterator-loop-key g).can_next l.pairs × (goal.iterator-loop-key g).is_finite l.pairs × always_mut g.F.FnMut l.new
    × ((found : Option (ℕ × ℕ)) (last : _) → Alters (λ f pair value h. goal.F-step g f pair.0 pair.1 value h) found l.new l.pairs last
    → Alters (λ f pair value h. goal.F-step g f pair.0 pair.1 value h) found l.fn.new l.fn.pairs last)
