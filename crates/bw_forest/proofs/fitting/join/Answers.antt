use Rattle.std.proofs.Common.{rules, ◌≡◌, ◌+◌, ◌<◌, ◌∷◌, ◌++◌, [], ℕ, List, Some, length, take, slice_get, ap, sym, subst, ◌∙◌, append_assoc, append-nil, arith, length-append}
use Rattle.std.proofs.lemmas.List.{map-append, take_all}
use Rattle.bw_keys.specs.declared.range.Range.{Range}
use Rattle.bw_law.specs.Tables.{TableValue}
use Rattle.bw_forest.specs.Bounds.{ranges_of}
use Rattle.bw_forest.specs.Forests.{HasPairsWithin, ranges_in, tables_of}
use Rattle.bw_forest.specs.Plots.{PlotValue}
use Rattle.bw_tree.proofs.Trees.{is_tree}
use Rattle.bw_tree.specs.Trees.{IsTree}
use Rattle.bw_forest.proofs.Closing.{all_more, length_map, length_ranges, tables_more}
use Rattle.bw_forest.proofs.Fits.{got_behind, ranges_more}
use Rattle.bw_forest.proofs.fitting.join.Goals as goal

pub new-requires : goal.new-requires
new-requires g c =
    let inv = c.loop-table.invariant in
    let trees = c.loop-table.trees.items in
    let table = c.in-Some.table in
    let rest = c.next.new.self.rest.items in
    let split : c.loop-table.table-iterator.rest.items ≡ table ∷ rest = search rules in
    let whole : tables_of trees ++ table ∷ rest ≡ c.args.tables.items = rw split at inv.tables in
    let many = length_map (λ (t : PlotValue). t.table) trees in
    let there : slice_get c.args.tables.items (length trees) ≡ Some table =
    subst (λ (n : ℕ). slice_get c.args.tables.items n ≡ Some table) many
    (subst (λ (ts : List TableValue). slice_get ts (length (tables_of trees)) ≡ Some table) whole
    (got_behind (tables_of trees) rest table)) in
    let range : slice_get (ranges_of c.args.bounds.now) (length trees) ≡ Some c.range-range.result = search rules in
    c.requires.fit.within (length trees) c.range-range.result table range there

pub loop-table-preserved : goal.loop-table-preserved
loop-table-preserved g c =
    let inv = c.loop-table.invariant in
    let trees = c.loop-table.trees.items in
    let table = c.in-Some.table in
    let tree = c.new.result in
    let rest = c.next.new.self.rest.items in
    let split : c.loop-table.table-iterator.rest.items ≡ table ∷ rest = search rules in
    let pushed = c.push_reserved.ensures.items in
    let longer : length c.push_reserved.new.self.items ≡ length trees + 1 =
    omega (arith, ap length pushed, length-append trees (tree ∷ [])) in
    let more = tables_more trees c.push_reserved.new.self.items tree pushed in
    let range : slice_get (ranges_of c.args.bounds.now) (length trees) ≡ Some c.range-range.result = search rules in
    let whole : tables_of trees ++ table ∷ rest ≡ c.args.tables.items = rw split at inv.tables in
    let many = length_map (λ (t : PlotValue). t.table) trees in
    let there : slice_get c.args.tables.items (length trees) ≡ Some table =
    subst (λ (n : ℕ). slice_get c.args.tables.items n ≡ Some table) many
    (subst (λ (ts : List TableValue). slice_get ts (length (tables_of trees)) ≡ Some table) whole
    (got_behind (tables_of trees) rest table)) in
    let tree_is : IsTree tree.table =
    subst IsTree (sym c.new.ensures.table) (is_tree table c.law.ensures.lawful c.law.ensures.booked) in
    let lies : HasPairsWithin tree = rw (c.new.ensures.table, c.new.ensures.range)
    (c.requires.fit.within (length trees) c.range-range.result table range there) in
    record {
      count = omega (arith, ap length split, longer, inv.count);
      each = all_more IsTree (tables_of trees) _ tree.table more inv.each tree_is;
      within = all_more HasPairsWithin trees _ tree pushed inv.within lies;
      tables = ap (λ (ts : List TableValue). ts ++ rest) more
          ∙ (append_assoc (tables_of trees) (tree.table ∷ []) rest
          ∙ (ap (λ (t : TableValue). tables_of trees ++ t ∷ rest) c.new.ensures.table ∙ rw split at inv.tables));
      ranges = ap ranges_in pushed
          ∙ (map-append (λ (t : PlotValue). t.range) trees (tree ∷ [])
          ∙ ((λ j. inv.ranges j ++ c.new.ensures.range j ∷ [])
          ∙ (sym (ranges_more (ranges_of c.args.bounds.now) (length trees) c.range-range.result range)
          ∙ ap (λ (n : ℕ). take n (ranges_of c.args.bounds.now)) (sym longer))));
      room = rw c.push_reserved.ensures.capacity inv.room;
    }

pub returns-clause-ranges : goal.returns-clause-ranges
returns-clause-ranges g c =
    let trees = c.loop-table.trees.items in
    let count : length trees ≡ length c.args.tables.items = search rules in
    let bounds = length_ranges c.args.bounds.now in
    c.loop-table.invariant.ranges ∙ take_all (length trees) (ranges_of c.args.bounds.now)
    (omega (arith, count, c.requires.fit.number, bounds))
