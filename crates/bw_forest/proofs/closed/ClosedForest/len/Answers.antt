use Rattle.std.proofs.Common.{rules, ◌≡◌, ◌+◌, ◌<◌, List, length, take, ap, subst, sym, arith}
use Rattle.std.specs.Prelude.{min}
use Rattle.bw_law.specs.Tables.{TableValue}
use Rattle.bw_tree.specs.Stocks.{most}
use Rattle.bw_forest.specs.Forests.{ForestValue, pairs_of, tables_of}
use Rattle.bw_forest.specs.Plots.{PlotValue}
use Rattle.bw_forest.proofs.Closing.{length_map, pairs_more, table_at}
use Rattle.bw_forest.proofs.closed.ClosedForest.len.Goals as goal

pub loop-i-preserved : goal.loop-i-preserved
loop-i-preserved g c =
    let trees = c.self.inside.trees.items in
    let i = c.loop-i.i in
    let table = c.table.result.now in
    let are : tables_of trees ≡ c.args.self.now.tables = ap (λ (f : ForestValue). f.tables) c.self.view_is in
    let less : i < length trees = search rules in
    let inside : i < length (tables_of trees) = let count = length_map (λ (t : PlotValue). t.table) trees in omega (arith, less, count) in
    let sum = subst (λ (ts : List TableValue). c.loop-i.all ≡ min (pairs_of (take i ts)) most) (sym are) c.loop-i.invariant in
    let more = pairs_more (tables_of trees) i table inside
    (table_at trees i c.index.result.now table less c.index.ensures c.table.ensures.same) in
    subst (λ (ts : List TableValue). c.saturating_add-all.result ≡ min (pairs_of (take (i + 1) ts)) most) are
    (rw more (omega (arith, sum, c.saturating_add-all.ensures, c.book-book.ensures.booked)))
