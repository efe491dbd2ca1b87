use Rattle.nifforan.proofs.Changes.{unchanged_is, delete_result}
use Rattle.nifforan.proofs.map.Map.delete_in_room.Goals as goal

pub returns-clause-deletes : goal.returns-clause-deletes
returns-clause-deletes g c = rw (← c.self.view_is) (delete_result c.self.inside.worker.owner.table.value c.delete.new.self.owner.table.value c.self.invariant.lawful c.delete.ensures.ready.lawful c.args.key c.delete.result c.delete.ensures.change)

pub returns-clause-unchanged : goal.returns-clause-unchanged
returns-clause-unchanged g c = rw (← c.self.view_is) (unchanged_is c.self.inside.worker.owner.table.value c.delete.new.self.owner.table.value c.self.invariant.lawful c.delete.ensures.ready.lawful c.args.key c.delete.result c.delete.ensures.unchanged)
