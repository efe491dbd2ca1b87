use Rattle.nifforan.proofs.Edges.{same_joined}
use Rattle.nifforan.proofs.worker.Worker.split_edge.Goals as goal

pub returns-in-Some-clause-same : goal.returns-in-Some-clause-same
returns-in-Some-clause-same g c =
    let old = c.args.self.now.owner.table.value.slots in
    let split = c.split_under.new.self.owner.table.value.slots in
    let posted = c.post.new.self.owner.table.value.slots in
    let new = c.tend-fault.new.self.owner.table.value.slots in
    same_joined old split new c.split_under.ensures.same (same_joined split posted new c.post.ensures.same c.tend-fault.ensures.same)

pub returns-in-None-clause-same : goal.returns-in-None-clause-same
returns-in-None-clause-same g c =
    let old = c.args.self.now.owner.table.value.slots in
    let split = c.split_under.new.self.owner.table.value.slots in
    same_joined old split c.tend-fault-in-None.new.self.owner.table.value.slots c.split_under.ensures.same c.tend-fault-in-None.ensures.same
