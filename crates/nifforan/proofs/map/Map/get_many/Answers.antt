use Rattle.std.proofs.Common.{ap, map, ◌∙◌}
use Rattle.bw_delta.specs.Entries.{at}
use Rattle.nifforan.specs.Maps.{MapValue}
use Rattle.nifforan.proofs.Listing.{values_are}
use Rattle.nifforan.proofs.map.Map.get_many.Goals as goal

pub returns : goal.returns
returns g c =
    values_are c.self.inside.worker.owner.table.value c.self.invariant.lawful c.args.keys c.get_many.result c.get_many.ensures
    ∙ ap (λ (m : MapValue). map (λ key. at key m.pairs) c.args.keys) c.self.view_is
