use Rattle.nifforan.proofs.Edges.{reshaped_same}
use Rattle.nifforan.proofs.worker.Worker.post.Goals as goal

pub returns-clause-same : goal.returns-clause-same
returns-clause-same g c =
    rw c.forget.ensures.table (reshaped_same c.args.self.now.owner.table.value c.help-posted.new.self.table.value _ _ c.requires c.help-posted.ensures.follows.leads c.help-posted.ensures.reshapes.without_shapes)
