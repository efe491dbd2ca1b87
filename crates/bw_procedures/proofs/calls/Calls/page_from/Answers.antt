use Rattle.bw_procedures.proofs.calls.Calls.page_from.Goals as goal

pub returns-in_err-slice-clause-follows : goal.returns-in_err-slice-clause-follows
returns-in_err-slice-clause-follows g c = g.met.Self.Steps.joins _ _ _ c.again.invariant.follows c.in_err-slice.ensures.follows

pub returns-in-Some-clause-follows : goal.returns-in-Some-clause-follows
returns-in-Some-clause-follows g c = g.met.Self.Steps.joins _ _ _ c.again.invariant.follows c.in_ok-slice.ensures.follows

pub returns-then-is_spent-clause-follows : goal.returns-then-is_spent-clause-follows
returns-then-is_spent-clause-follows g c = g.met.Self.Steps.joins _ _ _ c.again.invariant.follows c.in_ok-slice.ensures.follows
