use Rattle.bw_forest.proofs.Mapping.{has_map}
use Rattle.bw_forest.proofs.closed.ClosedForest.new.Goals as goal

pub returns-clause-map : goal.returns-clause-map
returns-clause-map g c = has_map c.args.bounds c.args.trees.items c.requires.forest.are_bounds.rise c.requires.forest
