use Rattle.nifforan.proofs.map.Map.extend.Goals as goal

pub returns-clause-sets : goal.returns-clause-sets
returns-clause-sets g c = (c.into_iter-left.result, c.into_iter-left.ensures.into_iter_gives, rw c.reserve-ahead.ensures.kept.pairs at c.set_each.ensures.sets)
