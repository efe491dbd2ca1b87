use Rattle.std.proofs.Common.{arith}
use Rattle.nifforan.proofs.Changes.{unchanged_is, set_result}
use Rattle.nifforan.proofs.map.Map.set_in_room.Goals as goal

pub returns-clause-sets : goal.returns-clause-sets
returns-clause-sets g c = rw (← c.self.view_is) (set_result c.self.inside.worker.owner.table.value c.set.new.self.owner.table.value c.self.invariant.lawful c.set.ensures.ready.lawful c.args.key c.args.value (omega arith) c.set.result c.set.ensures.change)

pub returns-clause-unchanged : goal.returns-clause-unchanged
returns-clause-unchanged g c = rw (← c.self.view_is) (unchanged_is c.self.inside.worker.owner.table.value c.set.new.self.owner.table.value c.self.invariant.lawful c.set.ensures.ready.lawful c.args.key c.set.result c.set.ensures.unchanged)
