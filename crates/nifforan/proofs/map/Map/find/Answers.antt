use Rattle.std.proofs.Common.{ap, ◌∙◌}
use Rattle.bw_delta.specs.Entries.{at}
use Rattle.nifforan.specs.Maps.{MapValue}
use Rattle.nifforan.proofs.Listing.{value_is}
use Rattle.nifforan.proofs.map.Map.find.Goals as goal

pub returns : goal.returns
returns g c = value_is c.self.inside.worker.owner.table.value c.self.invariant.lawful c.args.key c.find.result.value c.find.ensures ∙ ap (λ (m : MapValue). at c.args.key m.pairs) c.self.view_is
