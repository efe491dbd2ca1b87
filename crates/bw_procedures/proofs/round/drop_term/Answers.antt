use Rattle.std.proofs.Common.{subst}
use Rattle.bw_procedures.specs.Seen.{Seen}
use Rattle.bw_procedures.specs.Calls.{OnlyReshapes}
use Rattle.bw_procedures.proofs.Joining.{round_then}
use Rattle.bw_procedures.proofs.round.drop_term.Goals as goal

pub returns-in-Some-2-clause-round : goal.returns-in-Some-2-clause-round
returns-in-Some-2-clause-round g c =
    let Before : Seen → Type 0 = λ it. OnlyReshapes it (g.S.Steps.seen c.parent_of.new.steps) in
    let before = subst Before c.in-Some.ensures.seen c.in_ok-parent.ensures.reshapes.0 in
    round_then c.args.rung 0 c.args.limit c.drop_under.result _ _ _ before c.drop_under.ensures.round

pub returns-in_err-parent-clause-follows : goal.returns-in_err-parent-clause-follows
returns-in_err-parent-clause-follows g c = g.met.S.Steps.joins _ _ _ c.in-Some.ensures.follows c.in_err-parent.ensures.follows

pub returns-in-Some-2-clause-follows : goal.returns-in-Some-2-clause-follows
returns-in-Some-2-clause-follows g c = g.met.S.Steps.joins _ _ _ c.in-Some.ensures.follows (g.met.S.Steps.joins _ _ _ c.in_ok-parent.ensures.follows c.drop_under.ensures.follows)

pub returns-in-None-clause-follows : goal.returns-in-None-clause-follows
returns-in-None-clause-follows g c = g.met.S.Steps.joins _ _ _ c.in-Some.ensures.follows c.in_ok-parent.ensures.follows
