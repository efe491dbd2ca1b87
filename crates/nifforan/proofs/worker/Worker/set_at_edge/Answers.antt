use Rattle.nifforan.proofs.Replies.{set_changes}
use Rattle.nifforan.proofs.worker.Worker.set_at_edge.Goals as goal

pub returns-clause-change : goal.returns-clause-change
returns-clause-change g c =
    set_changes c.args.key c.args.value c.of.result c.in_ok-receipt.field-0 _ _
    (c.of.ensures c.args.key c.args.value c.in_ok-receipt.ensures.reported) c.in_ok-receipt.ensures.map
