use Rattle.std.proofs.Common.{arith}
use Rattle.nifforan.proofs.AtOnce.{found_changes}
use Rattle.nifforan.proofs.map.Map.change_found.Goals as goal

pub returns-clause-change : goal.returns-clause-change
returns-clause-change g c =
    rw (← c.self.view_is) (found_changes c.args.key c.args.wished c.self.inside.worker.owner.table.value
    c.change_found.new.self.owner.table.value _ c.self.invariant.lawful (omega arith) c.change_found.result
    c.change_found.ensures.ready c.change_found.ensures.map)
