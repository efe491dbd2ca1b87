use Rattle.std.proofs.Common.{ap, ◌∙◌}
use Rattle.bw_delta.specs.Entries.{first_entry}
use Rattle.nifforan.specs.Maps.{MapValue}
use Rattle.nifforan.proofs.Neighbours.{first_is_head}
use Rattle.nifforan.proofs.map.Map.first.Goals as goal

pub returns : goal.returns
returns g c = first_is_head c.self.inside.worker.owner.table.value c.self.invariant.lawful c.first.result c.first.ensures.first c.first.ensures.none ∙ ap (λ (m : MapValue). first_entry m.pairs) c.self.view_is
