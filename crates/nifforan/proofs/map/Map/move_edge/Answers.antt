use Rattle.nifforan.proofs.Listing.{same_pairs}
use Rattle.nifforan.proofs.map.Map.move_edge.Goals as goal

pub returns-clause-pairs : goal.returns-clause-pairs
returns-clause-pairs g c = rw (← c.self.view_is) (same_pairs c.self.inside.worker.owner.table.value c.move_edge.new.self.owner.table.value c.self.invariant.lawful c.move_edge.ensures.ready.lawful c.move_edge.ensures.same)
