use Rattle.std.proofs.Common.{rules, ◌≡◌, ◌+◌, ◌∷◌, [], length, ap, sym, ◌∙◌, arith, length-append, refl}
use Rattle.std.proofs.lemmas.List.{nil_from_length}
use Rattle.std.proofs.lemmas.List.Elements.{All-nil}
use Rattle.bw_law.specs.Tables.{TableValue}
use Rattle.bw_tree.specs.Shares.{no_changes, shared_in, sum_of, together}
use Rattle.bw_tree.specs.Stocks.{TotalsValue}
use Rattle.bw_tree.specs.Trees.{IsTree}
use Rattle.bw_forest.specs.Forests.{HasPairsWithin, books_of, tables_of}
use Rattle.bw_forest.proofs.Closing.{all_more, books_more, tables_more}
use Rattle.bw_forest.proofs.Fits.{alike}
use Rattle.bw_forest.proofs.forest.fell.Goals as goal

pub loop-tree-init : goal.loop-tree-init
loop-tree-init g c =
    let none : c.args.room.items ≡ [] = nil_from_length c.args.room.items c.requires.enough.0 in
    let all : c.into_iter-tree-iterator.result.rest.items ≡ c.args.trees.items = c.into_iter-tree-iterator.ensures.into_iter_gives.0 in
    let start = c.args.totals.now in
    let back : start.back ≡ 0 = ap (λ (t : TotalsValue). t.back) c.requires.none in
    let counted : start.counted ≡ no_changes = ap (λ (t : TotalsValue). t.counted) c.requires.none in
    record {
      left = omega (arith, c.requires.enough.0, ap length all);
      room = c.requires.enough.1;
      trees = rw none (All-nil IsTree);
      config = rw none (All-nil (λ (table : TableValue). table.config ≡ g.I.MadeBy.config));
      within = rw none (All-nil HasPairsWithin);
      totals = rw none (λ j. record start { back = back j; counted = counted j });
    }

pub loop-tree-preserved : goal.loop-tree-preserved
loop-tree-preserved g c =
    let inv = c.loop-tree.invariant in
    let start = c.args.totals.now in
    let before = c.loop-tree.felled.items in
    let after = c.push_reserved.new.self.items in
    let tree = c.new.result in
    let stock = c.apart-table.result.2 in
    let apart = c.apart-table.ensures in
    let is : IsTree tree.table = rw c.new.ensures.table apart.tree in
    let made : tree.table.config ≡ g.I.MadeBy.config = rw c.new.ensures.table apart.config in
    let lies : HasPairsWithin tree = rw (c.new.ensures.table, c.new.ensures.range) apart.within in
    let book : shared_in tree.table.book ≡ stock = rw c.new.ensures.table apart.book in
    let split : c.loop-tree.tree-iterator.rest.items ≡ c.in-Some.tree ∷ c.next.new.self.rest.items = search rules in
    let felled = c.push_reserved.ensures.items in
    let longer : length after ≡ length before + 1 = omega (arith, ap length felled, length-append before (tree ∷ [])) in
    let tables = tables_more before _ tree felled in
    let counted : sum_of (books_of (tables_of after)) ≡ together (sum_of (books_of (tables_of before))) stock =
    books_more (tables_of before) _ tree.table stock tables book in
    record {
      left = omega (arith, ap length split, inv.left, longer);
      room = rw c.push_reserved.ensures.capacity inv.room;
      trees = all_more IsTree (tables_of before) _ tree.table tables inv.trees is;
      config = all_more (λ (table : TableValue). table.config ≡ g.I.MadeBy.config)
          (tables_of before) _ tree.table tables inv.config made;
      within = all_more HasPairsWithin before _ tree felled inv.within lies;
      totals = c.take.ensures
          ∙ (ap (λ (t : TotalsValue). record t { back = t.back + 1; counted = together t.counted stock }) inv.totals
          ∙ (λ j. record start { back = sym longer j; counted = sym counted j }));
    }

pub returns-clause-alike : goal.returns-clause-alike
returns-clause-alike g c = alike g.I.MadeBy.config _ c.loop-tree.invariant.config
