use Rattle.bw_law.proofs.MapAndTerms.{map_law}
use Rattle.bw_law.proofs.the_join_is_the_map.Goals as goal

pub returns : goal.returns
returns c = map_law
