use Rattle.std.proofs.Common.{sym}
use Rattle.bw_forest.proofs.Closing.{as_many}
use Rattle.bw_forest.proofs.closed.ClosedForest.into_parts.Goals as goal

pub returns-clause-trees : goal.returns-clause-trees
returns-clause-trees g c = rw (sym c.self.view_is) c.self.invariant.each

pub returns-clause-count : goal.returns-clause-count
returns-clause-count g c = rw (sym c.self.view_is) (as_many _ _ c.self.invariant.ranges)

pub returns-clause-alike : goal.returns-clause-alike
returns-clause-alike g c = rw (sym c.self.view_is) c.self.invariant.alike
