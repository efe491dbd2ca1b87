use Rattle.std.proofs.Common.{ap, ◌∙◌}
use Rattle.bw_delta.specs.Entries.{last_entry}
use Rattle.nifforan.specs.Maps.{MapValue}
use Rattle.nifforan.proofs.Neighbours.{last_is_end}
use Rattle.nifforan.proofs.map.Map.last.Goals as goal

pub returns : goal.returns
returns g c = last_is_end c.self.inside.worker.owner.table.value c.self.invariant.lawful c.last.result c.last.ensures.last c.last.ensures.none ∙ ap (λ (m : MapValue). last_entry m.pairs) c.self.view_is
