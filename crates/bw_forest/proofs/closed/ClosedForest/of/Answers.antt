use Rattle.std.proofs.Common.{rules, sym, subst}
use Rattle.bw_forest.specs.Fitting.{FitRanges}
use Rattle.bw_forest.specs.Forests.{AreAlike}
use Rattle.bw_forest.proofs.closed.ClosedForest.of.Goals as goal

pub new-requires : goal.new-requires
new-requires g c =
    let joined = c.join-trees.ensures in
    let fit : FitRanges c.args.bounds c.args.tables.items = search rules in
    record {
      forest = record {
        are_bounds = c.check.ensures.bounds;
        ranges = joined.ranges;
        each = joined.each;
        within = joined.within;
        alike = subst AreAlike (sym joined.tables) fit.alike;
      };
    }
