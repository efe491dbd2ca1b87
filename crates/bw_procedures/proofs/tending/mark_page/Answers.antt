use Rattle.bw_procedures.proofs.Joining.{nears, tends_then, tends_fails}
use Rattle.bw_procedures.proofs.Rounds.{reshapes_then}
use Rattle.bw_procedures.proofs.tending.mark_page.Goals as goal

pub returns-in-Accepted-clause-tended : goal.returns-in-Accepted-clause-tended
returns-in-Accepted-clause-tended g c =
    let parent = c.in_ok-parent.ensures.reshapes.0 in
    let marked = c.in_ok-reshape.ensures.reshapes in
    let nearer = nears c.args.limit _ _ (g.S.Steps.seen c.reshape.new.steps) c.ranges.limit.fits parent c.in_ok-reshape.ensures.within marked.1 in
    tends_then c.args.limit c.page_after.result _ _ _ (reshapes_then _ _ _ parent marked.0) nearer c.page_after.ensures.reshapes

pub returns-in-Refused-clause-tended : goal.returns-in-Refused-clause-tended
returns-in-Refused-clause-tended g c = (reshapes_then _ _ _ c.in_ok-parent.ensures.reshapes.0 c.in_ok-reshape.ensures.reshapes.0, tt)

pub returns-in_err-reshape-clause-follows : goal.returns-in_err-reshape-clause-follows
returns-in_err-reshape-clause-follows g c = g.met.S.Steps.joins _ _ _ c.in_ok-parent.ensures.follows c.in_err-reshape.ensures.follows

pub returns-in-Accepted-clause-follows : goal.returns-in-Accepted-clause-follows
returns-in-Accepted-clause-follows g c = g.met.S.Steps.joins _ _ _ c.in_ok-parent.ensures.follows (g.met.S.Steps.joins _ _ _ c.in_ok-reshape.ensures.follows c.page_after.ensures.follows)

pub returns-in-Refused-clause-follows : goal.returns-in-Refused-clause-follows
returns-in-Refused-clause-follows g c = g.met.S.Steps.joins _ _ _ c.in_ok-parent.ensures.follows c.in_ok-reshape.ensures.follows

pub returns-in_err-reshape-clause-tended : goal.returns-in_err-reshape-clause-tended
returns-in_err-reshape-clause-tended g c =
    tends_fails _ _ _ _ _ _ c.from_residual-in_err-reshape.ensures.1 c.in_ok-parent.ensures.reshapes.0 c.in_err-reshape.ensures.reshapes
