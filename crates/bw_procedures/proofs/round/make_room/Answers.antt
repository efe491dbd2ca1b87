use Rattle.bw_procedures.proofs.Joining.{spends_reshapes, spends_then}
use Rattle.bw_procedures.proofs.round.make_room.Goals as goal

pub returns-in_ok-reshape-clause-reshapes : goal.returns-in_ok-reshape-clause-reshapes
returns-in_ok-reshape-clause-reshapes g c = spends_then _ _ _ c.in_ok-step.ensures.reads.0 c.in_ok-reshape.ensures.reshapes

pub returns-in_default-clause-reshapes : goal.returns-in_default-clause-reshapes
returns-in_default-clause-reshapes g c =
    let reads = rw c.in_default.is at c.in_ok-step.ensures.reads in
    (spends_reshapes _ _ reads.0, reads.1)

pub returns-in_err-reshape-clause-follows : goal.returns-in_err-reshape-clause-follows
returns-in_err-reshape-clause-follows g c = g.met.S.Steps.joins _ _ _ c.in_ok-step.ensures.follows c.in_err-reshape.ensures.follows

pub returns-in_ok-reshape-clause-follows : goal.returns-in_ok-reshape-clause-follows
returns-in_ok-reshape-clause-follows g c = g.met.S.Steps.joins _ _ _ c.in_ok-step.ensures.follows c.in_ok-reshape.ensures.follows
