use Rattle.std.proofs.Common.{subst}
use Rattle.bw_procedures.specs.Seen.{Seen}
use Rattle.bw_procedures.specs.Calls.{OnlyReshapes}
use Rattle.bw_procedures.proofs.Joining.{round_then, spends_reshapes}
use Rattle.bw_procedures.proofs.round.merge.Goals as goal

pub returns-in-Some-2-clause-round : goal.returns-in-Some-2-clause-round
returns-in-Some-2-clause-round g c =
    let Before : Seen → Type 0 = λ it. OnlyReshapes it (g.S.Steps.seen c.walk.new.steps) in
    let before = subst Before c.in-Some.ensures.seen (spends_reshapes _ _ c.in_ok-left.ensures.seen) in
    round_then c.args.rung 1 c.args.limit c.merge_under.result _ _ _ before c.merge_under.ensures.round

pub returns-in_err-left-clause-follows : goal.returns-in_err-left-clause-follows
returns-in_err-left-clause-follows g c = g.met.S.Steps.joins _ _ _ c.in-Some.ensures.follows c.in_err-left.ensures.follows

pub returns-in-Some-2-clause-follows : goal.returns-in-Some-2-clause-follows
returns-in-Some-2-clause-follows g c = g.met.S.Steps.joins _ _ _ c.in-Some.ensures.follows (g.met.S.Steps.joins _ _ _ c.in_ok-left.ensures.follows c.merge_under.ensures.follows)

pub returns-in-None-clause-follows : goal.returns-in-None-clause-follows
returns-in-None-clause-follows g c = g.met.S.Steps.joins _ _ _ c.in-Some.ensures.follows c.in_ok-left.ensures.follows
