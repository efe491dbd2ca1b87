use Rattle.std.proofs.Common.{arith}
use Rattle.bw_procedures.proofs.Joining.{nears, same_reshapes}
use Rattle.bw_procedures.proofs.Rounds.{reshapes_then}
use Rattle.bw_procedures.proofs.tending.split_by_copy.Goals as goal

pub returns-in-Accepted-Shaped-default-default-Some-clause-tended : goal.returns-in-Accepted-Shaped-default-default-Some-clause-tended
returns-in-Accepted-Shaped-default-default-Some-clause-tended g c =
    let copied = c.in-Ok.ensures.seen in
    let before = same_reshapes _ _ copied.0 (omega (arith, copied.1)) in
    let split = c.in_ok-new.ensures.reshapes in
    (reshapes_then _ _ _ before split.0, nears c.args.limit _ _ (g.S.Steps.seen c.reshape.new.steps) c.ranges.limit.fits before c.in_ok-new.ensures.within split.1)

pub returns-in_err-new-clause-follows : goal.returns-in_err-new-clause-follows
returns-in_err-new-clause-follows g c = g.met.S.Steps.joins _ _ _ c.in-Ok.ensures.follows c.in_err-new.ensures.follows

pub returns-in-Accepted-Shaped-default-default-Some-clause-follows : goal.returns-in-Accepted-Shaped-default-default-Some-clause-follows
returns-in-Accepted-Shaped-default-default-Some-clause-follows g c = g.met.S.Steps.joins _ _ _ c.in-Ok.ensures.follows c.in_ok-new.ensures.follows

pub returns-clause-follows : goal.returns-clause-follows
returns-clause-follows g c = g.met.S.Steps.joins _ _ _ c.in-Ok.ensures.follows c.in_ok-new.ensures.follows
