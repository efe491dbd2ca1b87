use Rattle.bw_procedures.proofs.Parts.{tended_then}
use Rattle.bw_procedures.proofs.tending.tend_once.Goals as goal

pub returns-then-view-eq0-clause-follows : goal.returns-then-view-eq0-clause-follows
returns-then-view-eq0-clause-follows g c = g.met.S.Steps.joins _ _ _ c.in_ok-view.ensures.follows c.split_page.ensures.follows

pub returns-then-view-root-clause-follows : goal.returns-then-view-root-clause-follows
returns-then-view-root-clause-follows g c = g.met.S.Steps.joins _ _ _ c.in_ok-view.ensures.follows c.merge_page.ensures.follows

pub returns-then-view-eq0-clause-tended : goal.returns-then-view-eq0-clause-tended
returns-then-view-eq0-clause-tended g c = tended_then c.args.limit c.split_page.result _ _ _ c.in_ok-view.ensures.reshapes.0 c.split_page.ensures.tended

pub returns-then-view-root-clause-tended : goal.returns-then-view-root-clause-tended
returns-then-view-root-clause-tended g c = tended_then c.args.limit c.merge_page.result _ _ _ c.in_ok-view.ensures.reshapes.0 c.merge_page.ensures.tended
