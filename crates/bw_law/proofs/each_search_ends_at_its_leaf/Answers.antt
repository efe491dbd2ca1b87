use Rattle.bw_law.proofs.Walk.{walk_law}
use Rattle.bw_law.proofs.each_search_ends_at_its_leaf.Goals as goal

pub returns : goal.returns
returns c = walk_law
