use Rattle.bw_keys.specs.Ranges.{key_count}
use Rattle.nifforan.proofs.Fills.{set_of_all}
use Rattle.nifforan.proofs.map.Map.anew.Goals as goal

pub returns-clause-pairs : goal.returns-clause-pairs
returns-clause-pairs g c =
    let sets = c.in_ok-_done.ensures.sets in
    set_of_all key_count c.args.self.now.pairs c.in_ok-map.map.pairs c.set_each.new.self.pairs c.iter.result sets.0 c.law.ensures.rise c.iter.ensures c.in_ok-map.ensures.empty sets.1 sets.2
