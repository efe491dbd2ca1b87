use Rattle.std.proofs.Common.{◌≡◌}
use Rattle.std.specs.Iterator.{YieldsFirst}
use Rattle.bw_keys.specs.Ranges.{key_count}
use Rattle.nifforan.specs.Maps.{PairList}
use Rattle.nifforan.proofs.Pops.{on_ok}
use Rattle.nifforan.proofs.Fills.{made_of_all}
use Rattle.nifforan.proofs.Filled.{first_of, full_copies}
use Rattle.nifforan.proofs.map.Map.try_clone.Goals as goal

pub returns-clause-pairs : goal.returns-clause-pairs
returns-clause-pairs g c = on_ok _ _ c.from_pairs.result (λ map made. made_of_all key_count c.args.self.now.pairs map.pairs c.law.ensures.rise made) c.from_pairs.ensures.pairs

pub returns-clause-full : goal.returns-clause-full
returns-clause-full g c =
    full_copies (λ (ps it : PairList). it ≡ ps) (YieldsFirst (λ (left : PairList). left)) c.args.self.now.pairs key_count c.config.result
    c.args.self.now c.config.ensures c.law.ensures.rise c.from_pairs.result c.from_pairs.ensures.full
    (λ it items rest is yields. first_of it items rest c.args.self.now.pairs is yields)
