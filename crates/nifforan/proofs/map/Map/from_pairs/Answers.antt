use Rattle.std.proofs.Common.{◌∙◌}
use Rattle.nifforan.proofs.Fills.{is_made}
use Rattle.nifforan.proofs.Filled.{full_made}
use Rattle.nifforan.proofs.map.Map.from_pairs.Goals as goal

pub returns-in-Ok-extend-clause-pairs : goal.returns-in-Ok-extend-clause-pairs
returns-in-Ok-extend-clause-pairs g c = is_made g.U.IntoIterator.into_iter_gives g.U.IntoIter.Iterator.next_gives c.args.pairs _ c.extend.result _ _ c.in-Ok-extend.is c.in-Ok.ensures.empty c.extend.ensures.sets

pub returns-in-Err-extend-clause-full : goal.returns-in-Err-extend-clause-full
returns-in-Err-extend-clause-full g c =
    full_made g.U.IntoIterator.into_iter_gives g.U.IntoIter.Iterator.next_gives c.args.config c.args.pairs _ c.extend.result c.in-Ok.map
    c.extend.new.self _ c.in-Err-extend.is c.in-Ok.ensures.empty (c.extend.ensures.config ∙ c.in-Ok.ensures.config)
    c.cause_in_place-fault.ensures c.full_law.ensures c.extend.ensures.sets
