use Rattle.std.proofs.Common.{◌∙◌}
use Rattle.nifforan.proofs.Filled.{full_rising}
use Rattle.nifforan.proofs.map.Map.from_sorted.Goals as goal

pub returns-in-Err-append_all-clause-full : goal.returns-in-Err-append_all-clause-full
returns-in-Err-append_all-clause-full g c =
    full_rising g.U.IntoIterator.into_iter_gives g.U.IntoIter.Iterator.next_gives c.args.config c.args.pairs c.append_all.new.self
    c.in-Err-append_all.fault (c.in-Err-append_all.ensures.config ∙ c.in-Ok.ensures.config) c.full_law.ensures
    c.in-Err-append_all.ensures.cut
