use Rattle.bw_procedures.proofs.Joining.{spends_reshapes, spends_then}
use Rattle.bw_procedures.proofs.consolidation.consolidate_by_copy.Goals as goal

pub returns-in_default-clause-reshapes : goal.returns-in_default-clause-reshapes
returns-in_default-clause-reshapes g c =
    let reads = rw c.in_default.is at c.in_ok-step.ensures.reads in
    (spends_reshapes _ _ reads.0, reads.1)

pub returns-in-Accepted-clause-reshapes : goal.returns-in-Accepted-clause-reshapes
returns-in-Accepted-clause-reshapes g c =
    spends_then _ _ _ c.in_ok-step.ensures.reads.0 (c.in_ok-offer.ensures.shape (rw c.in-Some.is at c.in_ok-step.ensures.shape))

pub returns-in-Refused-clause-reshapes : goal.returns-in-Refused-clause-reshapes
returns-in-Refused-clause-reshapes g c =
    spends_then _ _ _ c.in_ok-step.ensures.reads.0 (c.in_ok-offer.ensures.shape (rw c.in-Some.is at c.in_ok-step.ensures.shape))

pub returns-in_err-offer-clause-follows : goal.returns-in_err-offer-clause-follows
returns-in_err-offer-clause-follows g c = g.met.S.Steps.joins _ _ _ c.in_ok-step.ensures.follows c.in_err-offer.ensures.follows

pub returns-in-Accepted-clause-follows : goal.returns-in-Accepted-clause-follows
returns-in-Accepted-clause-follows g c = g.met.S.Steps.joins _ _ _ c.in_ok-step.ensures.follows c.in_ok-offer.ensures.follows

pub returns-in-Refused-clause-follows : goal.returns-in-Refused-clause-follows
returns-in-Refused-clause-follows g c = g.met.S.Steps.joins _ _ _ c.in_ok-step.ensures.follows c.in_ok-offer.ensures.follows
