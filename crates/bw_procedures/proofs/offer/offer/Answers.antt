use Rattle.bw_step.specs.ProposalView.{proposal_of}
use Rattle.bw_procedures.proofs.Changing.{change_accepted}
use Rattle.bw_procedures.proofs.Reshaping.{shape_accepted}
use Rattle.bw_procedures.proofs.offer.offer.Goals as goal

pub returns-in-Ok-clause-shape : goal.returns-in-Ok-clause-shape
returns-in-Ok-clause-shape g c shape =
    shape_accepted (proposal_of c.args.step) c.in-Ok.receipt (g.S.Steps.seen c.args.steps.now) (g.S.Steps.seen c.install.new.self) shape c.in-Ok.ensures.seen

pub returns-in-Ok-clause-change : goal.returns-in-Ok-clause-change
returns-in-Ok-clause-change g c change =
    change_accepted (proposal_of c.args.step) c.args.limit c.in-Ok.receipt (g.S.Steps.seen c.args.steps.now) (g.S.Steps.seen c.install.new.self) change c.in-Ok.ensures.seen
