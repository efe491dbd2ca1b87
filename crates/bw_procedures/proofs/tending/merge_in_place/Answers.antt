use Rattle.std.proofs.Common.{arith}
use Rattle.bw_procedures.proofs.Reshaping.{split_tends}
use Rattle.bw_procedures.proofs.tending.merge_in_place.Goals as goal

pub returns-in-Some-clause-tended : goal.returns-in-Some-clause-tended
returns-in-Some-clause-tended g c =
    split_tends c.args.limit c.merge_at_once.result _ _ _ c.ranges.limit.fits c.in_ok-parent.ensures.reshapes.0 (omega (arith, c.covers.ensures.0 c.if-covers.true)) c.merge_at_once.ensures.seen

pub returns-in-Some-clause-follows : goal.returns-in-Some-clause-follows
returns-in-Some-clause-follows g c = g.met.S.Steps.joins _ _ _ c.in_ok-parent.ensures.follows c.merge_at_once.ensures.follows
