use Rattle.nifforan.proofs.Edges.{split_same}
use Rattle.nifforan.proofs.worker.Worker.split_under.Goals as goal

pub returns-clause-same : goal.returns-clause-same
returns-clause-same g c =
    split_same c.args.self.now.owner.table.value c.split_under-split.new.self c.args.parent.0 c.args.page.0 c.args.number c.law.ensures.lawful c.law.ensures.booked
    c.split_under-split.result c.split_under-split.ensures.done c.split_under-split.ensures.unchanged
