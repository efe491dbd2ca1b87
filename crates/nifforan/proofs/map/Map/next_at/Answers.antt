use Rattle.std.proofs.Common.{ap, ◌∙◌}
use Rattle.bw_delta.specs.Entries.{first_from}
use Rattle.nifforan.specs.Maps.{MapValue}
use Rattle.nifforan.proofs.Neighbours.{next_is_first}
use Rattle.nifforan.proofs.map.Map.next_at.Goals as goal

pub returns : goal.returns
returns g c = next_is_first c.self.inside.worker.owner.table.value c.self.invariant.lawful c.args.key c.next_at.result c.next_at.ensures.next c.next_at.ensures.none ∙ ap (λ (m : MapValue). first_from c.args.key m.pairs) c.self.view_is
