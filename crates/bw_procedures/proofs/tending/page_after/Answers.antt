use Rattle.bw_procedures.proofs.Parts.{within_then}
use Rattle.bw_procedures.proofs.tending.page_after.Goals as goal

pub returns : goal.returns
returns g c = record {
  follows = g.met.S.Steps.joins _ _ _ c.in_ok-settle.ensures.follows c.page_above.ensures.follows;
  reshapes = within_then 0 c.args.limit c.page_above.result _ _ _ c.in_ok-settle.ensures.reshapes.0 c.page_above.ensures.reshapes;
}
