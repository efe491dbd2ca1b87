use Rattle.std.proofs.Common.{sym, subst, refl}
use Rattle.bw_procedures.specs.Seen.{Seen}
use Rattle.bw_procedures.specs.Calls.{OnlyReshapes}
use Rattle.bw_procedures.proofs.Rounds.{reshapes_then}
use Rattle.bw_procedures.proofs.tending.settle.Goals as goal

pub returns-then-is_spent-clause-reshapes : goal.returns-then-is_spent-clause-reshapes
returns-then-is_spent-clause-reshapes g c =
    let Before : Seen → Type 0 = λ it. OnlyReshapes (g.S.Steps.seen c.args.steps.now) it in
    let before = subst Before (sym c.in-Some.ensures.seen) c.rounds.invariant.reshapes in
    (reshapes_then _ _ _ before c.in_ok-help_within.ensures.reshapes.0, c.if-is_spent.ensures.0 refl)

pub returns-in_default-clause-follows : goal.returns-in_default-clause-follows
returns-in_default-clause-follows g c = g.met.S.Steps.joins _ _ _ c.rounds.invariant.follows c.in_default.ensures.follows

pub returns-in_err-help_within-clause-follows : goal.returns-in_err-help_within-clause-follows
returns-in_err-help_within-clause-follows g c = g.met.S.Steps.joins _ _ _ c.rounds.invariant.follows (g.met.S.Steps.joins _ _ _ c.in-Some.ensures.follows c.in_err-help_within.ensures.follows)

pub returns-then-is_spent-clause-follows : goal.returns-then-is_spent-clause-follows
returns-then-is_spent-clause-follows g c = g.met.S.Steps.joins _ _ _ c.rounds.invariant.follows (g.met.S.Steps.joins _ _ _ c.in-Some.ensures.follows c.in_ok-help_within.ensures.follows)
