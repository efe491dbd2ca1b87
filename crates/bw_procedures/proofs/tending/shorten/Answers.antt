use Rattle.bw_procedures.proofs.tending.shorten.Goals as goal

pub returns-in_err-consolidate-clause-follows : goal.returns-in_err-consolidate-clause-follows
returns-in_err-consolidate-clause-follows g c = g.met.S.Steps.joins _ _ _ c.in-Some.ensures.follows c.in_err-consolidate.ensures.follows

pub returns-then-branch-clause-follows : goal.returns-then-branch-clause-follows
returns-then-branch-clause-follows g c = g.met.S.Steps.joins _ _ _ c.in-Some.ensures.follows (g.met.S.Steps.joins _ _ _ c.in_ok-consolidate.ensures.follows c.present-then-branch.ensures.follows)

pub returns-else-branch-clause-follows : goal.returns-else-branch-clause-follows
returns-else-branch-clause-follows g c = g.met.S.Steps.joins _ _ _ c.in-Some.ensures.follows c.in_ok-consolidate.ensures.follows
