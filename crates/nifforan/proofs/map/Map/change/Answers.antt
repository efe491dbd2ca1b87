use Rattle.std.proofs.Common.{arith}
use Rattle.nifforan.proofs.AtOnce.{changes_by, why_unchanged}
use Rattle.nifforan.proofs.map.Map.change.Goals as goal

pub returns-clause-change : goal.returns-clause-change
returns-clause-change g c =
    rw (← c.self.view_is) (changes_by c.args.key c.args.wished c.self.inside.worker.owner.table.value c.change.new.self.owner.table.value
    c.self.invariant.lawful c.change.ensures.ready.lawful (omega arith) c.change.result c.change.ensures.map)

pub returns-clause-why : goal.returns-clause-why
returns-clause-why g c =
    rw (← c.self.view_is) (why_unchanged c.args.key c.args.wished c.self.inside.most c.self.inside.worker.owner.table.value
    c.change.result c.self.invariant.lawful c.change.ensures.why)
