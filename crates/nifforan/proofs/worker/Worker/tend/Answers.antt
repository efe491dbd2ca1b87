use Rattle.nifforan.proofs.Edges.{reshaped_same}
use Rattle.nifforan.proofs.worker.Worker.tend.Goals as goal

pub returns-clause-same : goal.returns-clause-same
returns-clause-same g c =
    rw c.forget.ensures.table (reshaped_same c.args.self.now.owner.table.value c.tend-tended.new.self.table.value _ _ c.requires c.tend-tended.ensures.follows.leads c.tend-tended.ensures.reshapes.without_shapes)
