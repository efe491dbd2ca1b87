use Rattle.std.proofs.Common.{◌∙◌, refl, subst}
use Rattle.bw_procedures.specs.Seen.{Seen}
use Rattle.bw_procedures.specs.Calls.{OnlyReshapes}
use Rattle.bw_procedures.proofs.Joining.{round_then}
use Rattle.bw_procedures.proofs.round.post.Goals as goal

pub returns-in-Some-2-clause-round : goal.returns-in-Some-2-clause-round
returns-in-Some-2-clause-round g c =
    let Before : Seen → Type 0 = λ it. OnlyReshapes it (g.S.Steps.seen c.parent_of.new.steps) in
    let before = subst Before (c.in-Some.ensures.seen ∙ c.if-post_in_place.ensures.unposted refl) c.in_ok-parent.ensures.reshapes.0 in
    round_then c.args.rung 2 c.args.limit c.post_under.result _ _ _ before c.post_under.ensures.round

pub returns-in_default-clause-follows : goal.returns-in_default-clause-follows
returns-in_default-clause-follows g c = g.met.S.Steps.joins _ _ _ c.if-post_in_place.ensures.follows c.in_default.ensures.follows

pub returns-then-ne-clause-follows : goal.returns-then-ne-clause-follows
returns-then-ne-clause-follows g c = g.met.S.Steps.joins _ _ _ c.if-post_in_place.ensures.follows c.in-Some.ensures.follows

pub returns-in_err-grow-clause-follows : goal.returns-in_err-grow-clause-follows
returns-in_err-grow-clause-follows g c = g.met.S.Steps.joins _ _ _ c.if-post_in_place.ensures.follows (g.met.S.Steps.joins _ _ _ c.in-Some.ensures.follows c.in_err-grow.ensures.follows)

pub returns-then-view-root-clause-follows : goal.returns-then-view-root-clause-follows
returns-then-view-root-clause-follows g c = g.met.S.Steps.joins _ _ _ c.if-post_in_place.ensures.follows (g.met.S.Steps.joins _ _ _ c.in-Some.ensures.follows c.in_ok-grow.ensures.follows)

pub returns-in_err-parent-clause-follows : goal.returns-in_err-parent-clause-follows
returns-in_err-parent-clause-follows g c = g.met.S.Steps.joins _ _ _ c.if-post_in_place.ensures.follows (g.met.S.Steps.joins _ _ _ c.in-Some.ensures.follows c.in_err-parent.ensures.follows)

pub returns-in-Some-2-clause-follows : goal.returns-in-Some-2-clause-follows
returns-in-Some-2-clause-follows g c = g.met.S.Steps.joins _ _ _ c.if-post_in_place.ensures.follows (g.met.S.Steps.joins _ _ _ c.in-Some.ensures.follows (g.met.S.Steps.joins _ _ _ c.in_ok-parent.ensures.follows c.post_under.ensures.follows))

pub returns-in-None-clause-follows : goal.returns-in-None-clause-follows
returns-in-None-clause-follows g c = g.met.S.Steps.joins _ _ _ c.if-post_in_place.ensures.follows (g.met.S.Steps.joins _ _ _ c.in-Some.ensures.follows c.in_ok-parent.ensures.follows)
