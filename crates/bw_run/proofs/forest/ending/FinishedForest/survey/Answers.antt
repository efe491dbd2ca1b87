use Rattle.std.proofs.Common.{rules, ◌≡◌, ◌<◌, length, max, ap, sym, subst, ◌∙◌, arith}
use Rattle.std.specs.List.{filter_map}
use Rattle.bw_step.specs.declared.survey.Book.{Book}
use Rattle.bw_step.specs.declared.survey.Leaf.{Leaf}
use Rattle.bw_law.specs.Tables.{TableValue}
use Rattle.bw_forest.specs.Bounds.{ranges_of}
use Rattle.bw_forest.specs.Plots.{PlotValue}
use Rattle.bw_run.specs.ForestSurveys.{AreLeavesWithin, cut_to, with_book}
use Rattle.bw_run.proofs.ForestLeaves.{leaves_more, levels_more, read_at, read_many, sum_more}
use Rattle.bw_run.proofs.forest.ending.FinishedForest.survey.Goals as goal

pub loop-tree-preserved : goal.loop-tree-preserved
loop-tree-preserved c =
    let trees = c.trees-tree-items.result.now in
    let i = c.loop-tree.tree-index in
    let tree = c.tree-item.result in
    let table = c.table.result.now in
    let range = c.range.result in
    let ranges = ranges_of c.args.self.now.forest.bounds in
    let tables = c.args.self.now.forest.tables in
    let inv = c.loop-tree.invariant in
    let survey = c.in_ok-own.ensures in
    let less : i < length trees = search rules in
    let many_ranges = read_many (λ (t : PlotValue). t.range) trees ranges c.trees-tree-items.ensures.ranges in
    let many_tables = read_many (λ (t : PlotValue). t.table) trees tables c.trees-tree-items.ensures.tables in
    let in_tables : i < length tables = omega (arith, less, many_tables) in
    let is_range = read_at (λ (t : PlotValue). t.range) trees ranges i tree range c.trees-tree-items.ensures.ranges less c.tree-item.is
    c.range.ensures.same in
    let is_table = read_at (λ (t : PlotValue). t.table) trees tables i tree table c.trees-tree-items.ensures.tables less c.tree-item.is
    c.table.ensures.same in
    let within : AreLeavesWithin range table (filter_map (cut_to range) c.deref.result.now) = record {
      row = survey.row;
      is_row = survey.is_row;
      cut = ap (filter_map (cut_to range)) (c.deref.ensures.value ∙ survey.leaves);
    } in
    let book : c.together-book.result ≡ with_book c.loop-tree.book table.book =
    c.together-book.ensures ∙ ap (with_book c.loop-tree.book) survey.book in
    let highest : c.max-levels.result ≡ max c.loop-tree.levels c.in_ok-own.own.levels = search rules in
    record {
      leaves = rw c.in_ok-append_within.ensures
          (leaves_more ranges tables c.loop-tree.leaves.items i range table (filter_map (cut_to range) c.deref.result.now)
          (omega (arith, less, many_ranges)) in_tables is_range is_table inv.leaves within);
      levels = highest
          ∙ (ap (max c.loop-tree.levels) survey.levels ∙ levels_more tables i table c.loop-tree.levels in_tables is_table inv.levels);
      inserted = ap (λ (b : Book). b.inserted) book ∙ sum_more
          (λ (t : TableValue). t.book.inserted) tables i table _ in_tables is_table inv.inserted;
      removed = ap (λ (b : Book). b.removed) book ∙ sum_more
          (λ (t : TableValue). t.book.removed) tables i table _ in_tables is_table inv.removed;
      modified = ap (λ (b : Book). b.modified) book ∙ sum_more
          (λ (t : TableValue). t.book.modified) tables i table _ in_tables is_table inv.modified;
    }
