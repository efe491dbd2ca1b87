use Rattle.bw_procedures.proofs.Parts.{spends_more}
use Rattle.bw_procedures.proofs.Removals.{grow_then, spent_grows}
use Rattle.bw_procedures.proofs.Reshaping.{counts_grow}
use Rattle.bw_procedures.proofs.Trails.{adds_by}
use Rattle.bw_procedures.proofs.calls.Calls.get.Goals as goal

pub returns-in_err-look-clause-follows : goal.returns-in_err-look-clause-follows
returns-in_err-look-clause-follows g c = g.met.Self.Steps.joins _ _ _ c.again.invariant.follows c.in_err-look.ensures.follows

pub returns-in-Some-clause-follows : goal.returns-in-Some-clause-follows
returns-in-Some-clause-follows g c = g.met.Self.Steps.joins _ _ _ c.again.invariant.follows c.in_ok-look.ensures.follows

pub returns-then-is_spent-clause-follows : goal.returns-then-is_spent-clause-follows
returns-then-is_spent-clause-follows g c = g.met.Self.Steps.joins _ _ _ c.again.invariant.follows c.in_ok-look.ensures.follows

pub again-preserved : goal.again-preserved
again-preserved g c =
    let inv = c.again.invariant in
    let sought = rw c.in_default.is at c.in_ok-look.ensures.seen in
    record {
      follows = g.met.Self.Steps.joins _ _ _ inv.follows c.in_ok-look.ensures.follows;
      seen = spends_more _ _ _ inv.seen sought.0;
      calm = λ calm. absurd (rw c.in_default.is at (c.in_ok-look.ensures.calm (inv.calm calm)));
      no_effort = λ calm. absurd (rw c.in_default.is at (c.in_ok-look.ensures.calm (inv.calm calm)));
    }

pub returns-in_err-look-clause-grows : goal.returns-in_err-look-clause-grows
returns-in_err-look-clause-grows g c = grow_then _ _ _ (spent_grows _ _ c.again.invariant.seen) (spent_grows _ _ c.in_err-look.ensures.seen)

pub returns-in-Some-clause-grows : goal.returns-in-Some-clause-grows
returns-in-Some-clause-grows g c =
    let sought = rw c.in-Some.is at c.in_ok-look.ensures.seen in
    grow_then _ _ _ (spent_grows _ _ c.again.invariant.seen) (counts_grow _ _ sought.0 (adds_by _ _ _ sought.1) sought.2)

pub returns-then-is_spent-clause-grows : goal.returns-then-is_spent-clause-grows
returns-then-is_spent-clause-grows g c =
    let sought = rw c.in_default.is at c.in_ok-look.ensures.seen in
    grow_then _ _ _ (spent_grows _ _ c.again.invariant.seen) (spent_grows _ _ sought.0)
