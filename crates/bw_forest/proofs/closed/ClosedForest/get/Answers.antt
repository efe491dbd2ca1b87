use Rattle.std.proofs.Common.{◌<◌, length, subst, sym, arith}
use Rattle.bw_law.specs.Tables.{TableValue}
use Rattle.bw_table.specs.Gets.{IsMapAt}
use Rattle.bw_forest.specs.Plots.{PlotValue}
use Rattle.bw_forest.proofs.Closing.{as_many, got_map}
use Rattle.bw_forest.proofs.Mapping.{value_at}
use Rattle.bw_forest.proofs.closed.ClosedForest.get.Goals as goal

pub returns : goal.returns
returns g c =
    let inv = c.self.invariant in
    let trees = c.self.inside.trees.items in
    let tree = c.index.result.now in
    let number = c.tree_of.result in
    let count = as_many c.self.inside.bounds trees inv.ranges in
    let less : number < length trees = omega (arith, count, c.tree_of.ensures.there) in
    let there = got_map (λ (t : PlotValue). t.table) trees number tree less c.index.ensures in
    let found = subst (λ (t : TableValue). IsMapAt t c.args.key c.get.result) c.table.ensures.same c.get.ensures in
    rw (sym c.self.view_is)
    (value_at _ trees inv.are_bounds.rise inv c.args.key number c.tree_of.ensures.tree tree.table there c.get.result found)
