use Rattle.nifforan.proofs.Listing.{same_pairs}
use Rattle.nifforan.proofs.map.Map.tend_in_room.Goals as goal

pub returns-clause-same : goal.returns-clause-same
returns-clause-same g c =
    rw (← c.self.view_is) (same_pairs c.self.inside.worker.owner.table.value c.tend.new.self.owner.table.value
    c.self.invariant.lawful c.tend.ensures.ready.lawful c.tend.ensures.same)
