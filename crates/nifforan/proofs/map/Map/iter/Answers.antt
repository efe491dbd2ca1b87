use Rattle.std.proofs.Common.{length, ap, sym, ◌∙◌}
use Rattle.nifforan.proofs.Neighbours.{within_all}
use Rattle.nifforan.proofs.map.Map.iter.Goals as goal

pub invariant_of-result : goal.invariant_of-result
invariant_of-result g c = c.len.ensures ∙ ap length (sym (c.walk.ensures ∙ (rw (← c.self.view_is) (within_all c.self.inside.worker.owner.table.value c.self.invariant.lawful))))

pub returns : goal.returns
returns g c = c.walk.ensures ∙ (rw (← c.self.view_is) (within_all c.self.inside.worker.owner.table.value c.self.invariant.lawful))
