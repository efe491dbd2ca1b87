use Rattle.nifforan.proofs.Filled.{all_taken}
use Rattle.nifforan.proofs.map.Map.full_law.Goals as goal

pub returns : goal.returns
returns g c =
    let inside = c.self.inside in
    rw (← c.self.view_is) (all_taken inside.most inside.worker.owner.table.value inside.worker.owner.account.seen.trail c.self.invariant)
