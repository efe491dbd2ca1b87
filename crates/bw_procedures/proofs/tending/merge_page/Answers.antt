use Rattle.bw_procedures.proofs.Joining.{tends_then}
use Rattle.bw_procedures.proofs.Parts.{tended_then}
use Rattle.bw_procedures.proofs.tending.merge_page.Goals as goal

pub returns-in-Some-clause-follows : goal.returns-in-Some-clause-follows
returns-in-Some-clause-follows g c = g.met.S.Steps.joins _ _ _ c.in_ok-merge_in_place.ensures.follows c.page_above.ensures.follows

pub returns-in-Some-clause-tended : goal.returns-in-Some-clause-tended
returns-in-Some-clause-tended g c =
    let merged = rw c.in-Some.is at c.in_ok-merge_in_place.ensures.tended in
    tends_then c.args.limit c.page_above.result _ _ _ merged.0 merged.1 c.page_above.ensures.reshapes

pub returns-in-None-clause-follows : goal.returns-in-None-clause-follows
returns-in-None-clause-follows g c = g.met.S.Steps.joins _ _ _ c.in_ok-merge_in_place.ensures.follows c.mark_page.ensures.follows

pub returns-in-None-clause-tended : goal.returns-in-None-clause-tended
returns-in-None-clause-tended g c = tended_then c.args.limit c.mark_page.result _ _ _ c.in_ok-merge_in_place.ensures.tended.0 c.mark_page.ensures.tended
