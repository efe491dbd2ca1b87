use Rattle.std.proofs.Common.{rules, ◌≡◌, ◌+◌, ◌-◌, ◌<◌, ◌≤◌, ◌∷◌, ◌++◌, [], ℕ, List, length, take, ap, subst, sym, ◌∙◌, arith}
use Rattle.std.proofs.lemmas.List.{take_all, take_more}
use Rattle.bw_law.specs.Tables.{TableValue}
use Rattle.bw_forest.specs.Forests.{AreInARow, ForestValue, tables_of}
use Rattle.bw_forest.specs.Plots.{PlotValue}
use Rattle.bw_forest.proofs.Closing.{length_map, table_at}
use Rattle.bw_forest.proofs.Mapping.{forest_map, in_a_row_more, listing_is_map}
use Rattle.bw_forest.proofs.closed.ClosedForest.pairs.Goals as goal

pub loop-i-preserved : goal.loop-i-preserved
loop-i-preserved g c =
    let trees = c.self.inside.trees.items in
    let i = c.loop-i.i in
    let table = c.table-table.result.now in
    let own = c.list_range.new.list.items in
    let are : tables_of trees ≡ c.args.self.now.tables = ap (λ (f : ForestValue). f.tables) c.self.view_is in
    let less : i < length trees = search rules in
    let inside : i < length (tables_of trees) = let many = length_map (λ (t : PlotValue). t.table) trees in omega (arith, less, many) in
    let read = table_at trees i c.index.result.now table less c.index.ensures c.table-table.ensures.same in
    let row = subst (λ (ts : List TableValue). AreInARow (take i ts) c.loop-i.all.items) (sym are) c.loop-i.invariant in
    let count = c.book-book.result.inserted - c.book-book.result.removed in
    let map = listing_is_map table count own c.book-book.ensures.pairs c.in_ok-list_range.ensures.listed in
    let whole : take (i + 1) (tables_of trees) ≡ take i (tables_of trees) ++ table ∷ [] =
    take_more (tables_of trees) i table inside ∙ ap (λ (t : TableValue). take i (tables_of trees) ++ t ∷ []) (sym read) in
    let items : c.extend_from_slice.new.self.items ≡ c.loop-i.all.items ++ own =
    c.in_ok-extend_from_slice.ensures.items ∙ ap (λ (list : List (ℕ × ℕ)). c.loop-i.all.items ++ list) c.as_slice.ensures.value in
    subst (λ (ts : List TableValue). AreInARow (take (i + 1) ts) c.extend_from_slice.new.self.items) are
    (rw (whole, items) (in_a_row_more (take i (tables_of trees)) c.loop-i.all.items table own row map))

pub returns : goal.returns
returns g c =
    let inv = c.self.invariant in
    let trees = c.self.inside.trees.items in
    let are : tables_of trees ≡ c.args.self.now.tables = ap (λ (f : ForestValue). f.tables) c.self.view_is in
    let past : length trees ≤ c.loop-i.i = search rules in
    let all = take_all c.loop-i.i (tables_of trees)
    (let count = length_map (λ (t : PlotValue). t.table) trees in omega (arith, past, count)) in
    let row = subst (λ (ts : List TableValue). AreInARow (take c.loop-i.i ts) c.loop-i.all.items) (sym are) c.loop-i.invariant in
    rw (sym c.self.view_is)
    (forest_map c.self.inside.bounds trees inv.are_bounds.rise inv c.loop-i.all.items
    (subst (λ (ts : List TableValue). AreInARow ts c.loop-i.all.items) all row))
