use Rattle.std.proofs.Common.{◌≡◌, true, subst}
use Rattle.bw_keys.specs.Ranges.{key_count}
use Rattle.bw_delta.specs.Entries.{rises}
use Rattle.nifforan.specs.Maps.{MapValue}
use Rattle.nifforan.proofs.Listing.{pairs_are}
use Rattle.nifforan.proofs.map.Map.law.Goals as goal

pub returns-clause-rise : goal.returns-clause-rise
returns-clause-rise g c = subst (λ (m : MapValue). rises 0 key_count m.pairs ≡ true) c.self.view_is (pairs_are c.self.inside.worker.owner.table.value c.self.invariant.lawful).rise
