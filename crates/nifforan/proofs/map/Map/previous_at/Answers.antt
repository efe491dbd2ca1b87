use Rattle.std.proofs.Common.{ap, ◌∙◌}
use Rattle.bw_delta.specs.Entries.{last_upto}
use Rattle.nifforan.specs.Maps.{MapValue}
use Rattle.nifforan.proofs.Neighbours.{previous_is_last}
use Rattle.nifforan.proofs.map.Map.previous_at.Goals as goal

pub returns : goal.returns
returns g c = previous_is_last c.self.inside.worker.owner.table.value c.self.invariant.lawful c.args.key c.previous_at.result c.previous_at.ensures.previous c.previous_at.ensures.none ∙ ap (λ (m : MapValue). last_upto c.args.key m.pairs) c.self.view_is
