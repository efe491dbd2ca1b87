use Rattle.std.proofs.Common.{arith}
use Rattle.nifforan.proofs.Changes.{unchanged_is, put_result}
use Rattle.nifforan.proofs.map.Map.put_in_room.Goals as goal

pub returns-clause-puts : goal.returns-clause-puts
returns-clause-puts g c = rw (← c.self.view_is) (put_result c.self.inside.worker.owner.table.value c.put.new.self.owner.table.value c.self.invariant.lawful c.put.ensures.ready.lawful c.args.key c.args.value (omega arith) c.put.result c.put.ensures.change)

pub returns-clause-unchanged : goal.returns-clause-unchanged
returns-clause-unchanged g c = rw (← c.self.view_is) (unchanged_is c.self.inside.worker.owner.table.value c.put.new.self.owner.table.value c.self.invariant.lawful c.put.ensures.ready.lawful c.args.key c.put.result c.put.ensures.unchanged)
