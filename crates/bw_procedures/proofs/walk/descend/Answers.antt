use Rattle.std.proofs.Common.{◌∙◌, arith}
use Rattle.bw_procedures.proofs.Spending.{spends_visited}
use Rattle.bw_procedures.proofs.walk.descend.Goals as goal

pub returns-in-Gone-clause-follows : goal.returns-in-Gone-clause-follows
returns-in-Gone-clause-follows g c = g.met.S.Steps.joins _ _ _ c.down.invariant.follows c.visit.ensures.follows

pub returns-in-Gone-clause-seen : goal.returns-in-Gone-clause-seen
returns-in-Gone-clause-seen g c = spends_visited _ _ _ c.visit.result.go c.down.invariant.seen c.visit.ensures.seen

pub returns-in-Here-clause-follows : goal.returns-in-Here-clause-follows
returns-in-Here-clause-follows g c = g.met.S.Steps.joins _ _ _ c.down.invariant.follows c.visit.ensures.follows

pub returns-in-Here-clause-seen : goal.returns-in-Here-clause-seen
returns-in-Here-clause-seen g c = spends_visited _ _ _ c.visit.result.go c.down.invariant.seen c.visit.ensures.seen

pub returns-in-Here-clause-level : goal.returns-in-Here-clause-level
returns-in-Here-clause-level g c = let here = rw c.in-Here.is at c.visit.ensures.next in here.level

pub down-smaller-in-Right : goal.down-smaller-in-Right
down-smaller-in-Right g c = let next = rw c.in-Right.is at c.visit.ensures.next in omega (arith, next.0, next.1, next.2, c.ranges.key.fits)

pub down-smaller : goal.down-smaller
down-smaller g c = let next = rw c.in-Down.is at c.visit.ensures.next in omega (arith, next.0, next.1, next.2, c.ranges.key.fits)

pub down-preserved-in-Right : goal.down-preserved-in-Right
down-preserved-in-Right g c =
    let inv = c.down.invariant in
    record {
      follows = g.met.S.Steps.joins _ _ _ inv.follows c.visit.ensures.follows;
      seen = spends_visited _ _ _ c.visit.result.go inv.seen c.visit.ensures.seen;
      calm = λ calm. rw c.in-Right.is at (c.visit.ensures.calm (inv.calm calm));
      no_effort = λ calm. (rw c.in-Right.is at c.visit.ensures.seen.1) ∙ inv.no_effort calm;
    }

pub down-preserved : goal.down-preserved
down-preserved g c =
    let inv = c.down.invariant in
    record {
      follows = g.met.S.Steps.joins _ _ _ inv.follows c.visit.ensures.follows;
      seen = spends_visited _ _ _ c.visit.result.go inv.seen c.visit.ensures.seen;
      calm = λ calm. rw c.in-Down.is at (c.visit.ensures.calm (inv.calm calm));
      no_effort = λ calm. (rw c.in-Down.is at c.visit.ensures.seen.1) ∙ inv.no_effort calm;
    }
