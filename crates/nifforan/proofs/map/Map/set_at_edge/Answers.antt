use Rattle.std.proofs.Common.{sym, ◌∙◌, arith}
use Rattle.nifforan.proofs.Edges.{set_is_put}
use Rattle.nifforan.proofs.map.Map.set_at_edge.Goals as goal

pub returns-clause-sets : goal.returns-clause-sets
returns-clause-sets g c is =
    rw (← c.self.view_is) (set_is_put c.self.inside.worker.owner.table.value c.set_at_edge.new.self.owner.table.value c.self.invariant.lawful c.set_at_edge.ensures.ready.lawful c.args.key c.args.value (omega arith)
    c.set_at_edge.result c.set_at_edge.ensures.change (sym c.is_some.ensures ∙ is))
