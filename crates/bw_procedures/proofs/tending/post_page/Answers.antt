use Rattle.bw_procedures.proofs.Performing.{posting_reshapes}
use Rattle.bw_procedures.proofs.tending.post_page.Goals as goal

pub returns-clause-reshapes : goal.returns-clause-reshapes
returns-clause-reshapes g c = posting_reshapes c.args.new c.perform.result _ _ c.perform.ensures.seen
