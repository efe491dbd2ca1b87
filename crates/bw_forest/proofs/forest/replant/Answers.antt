use Rattle.std.proofs.Common.{rules, ◌≡◌, ◌∷◌, [], length, map, ap, refl, sym, ◌∙◌, arith, length-append, append-nil}
use Rattle.std.proofs.lemmas.List.{map-append, nil_from_length}
use Rattle.std.proofs.lemmas.List.Elements.{All-head, All-take, All-tail}
use Rattle.bw_law.specs.Tables.{TableValue}
use Rattle.bw_tree.specs.Shares.{no_changes, shared_in}
use Rattle.bw_forest.specs.Forests.{books_of, ranges_in, tables_of}
use Rattle.bw_forest.proofs.Opening.{last_too, one_left}
use Rattle.bw_forest.proofs.forest.replant.Goals as goal

pub loop-tree-init : goal.loop-tree-init
loop-tree-init g c =
    let all : c.into_iter-tree-iterator.result.rest.items ≡ c.args.closed.items = c.into_iter-tree-iterator.ensures.into_iter_gives.0 in
    let as_many = ap length all in
    let no_trees = c.requires.empty.0 in
    let no_opening = c.requires.empty.1 in
    record {
      left = omega (arith, ap length no_trees, as_many);
      count = omega (arith, ap length no_opening, ap length no_trees);
      stocks = omega (arith, c.requires.stocks, as_many);
      none_counted = c.requires.none_counted;
      shares = omega (arith, c.requires.shares, as_many);
      none_changed = c.requires.none_changed;
      alike = rw all c.requires.alike;
      ranges = rw (no_trees, all) refl;
      books = rw (no_opening, all) refl;
      room = c.requires.enough;
    }

pub begin-requires-clause-share : goal.begin-requires-clause-share
begin-requires-clause-share g c =
    let split = rw c.in-Some-pop-2.is at c.pop-in-loop-tree.ensures.items in
    last_too (λ share. share ≡ no_changes) c.loop-tree.shares.items c.pop-in-loop-tree.new.self.items c.in-Some-pop-2.share split
    c.loop-tree.invariant.none_changed

pub begin-requires-clause-stock : goal.begin-requires-clause-stock
begin-requires-clause-stock g c =
    let split = rw c.in-Some-pop.is at c.pop.ensures.items in
    last_too (λ stock. stock ≡ no_changes) c.loop-tree.stocks.items c.pop.new.self.items c.in-Some-pop.stock split
    c.loop-tree.invariant.none_counted

pub returns-clause-ranges : goal.returns-clause-ranges
returns-clause-ranges g c =
    let done = nil_from_length c.loop-tree.tree-iterator.rest.items (search rules) in
    sym (append-nil (map (λ tree. tree.range) c.loop-tree.trees.items)) ∙ (rw done at c.loop-tree.invariant.ranges)

pub returns-clause-opening : goal.returns-clause-opening
returns-clause-opening g c =
    let done = nil_from_length c.loop-tree.tree-iterator.rest.items (search rules) in
    sym (append-nil c.loop-tree.opening.items) ∙ (rw done at c.loop-tree.invariant.books)

pub in_forest-requires-clause-made : goal.in_forest-requires-clause-made
in_forest-requires-clause-made g c =
    let tree = c.in-Some.tree in
    let rest = c.next.new.self.rest.items in
    let split : c.loop-tree.tree-iterator.rest.items ≡ tree ∷ rest = search rules in
    let all = rw split at c.loop-tree.invariant.alike in
    rw c.into_table-table.ensures.same (All-head (λ (table : TableValue). table.config ≡ g.I.MadeBy.config) tree.table (tables_of rest) all)

pub in_forest-requires-clause-within : goal.in_forest-requires-clause-within
in_forest-requires-clause-within g c = rw c.range-range.ensures.same c.into_table-table.ensures.within

pub loop-tree-preserved : goal.loop-tree-preserved
loop-tree-preserved g c =
    let inv = c.loop-tree.invariant in
    let tree = c.in-Some.tree in
    let rest = c.next.new.self.rest.items in
    let split : c.loop-tree.tree-iterator.rest.items ≡ tree ∷ rest = search rules in
    let opening = c.push_reserved.ensures.items in
    let trees = c.push_reserved-in-loop-tree.ensures.items in
    let one = length-append c.loop-tree.opening.items (c.begin.new.share ∷ []) in
    let other = length-append c.loop-tree.trees.items (c.in_forest.result ∷ []) in
    let stocks_left : length c.pop.new.self.items ≡ length rest = search rules in
    let shares_left : length c.pop-in-loop-tree.new.self.items ≡ length rest = search rules in
    let book : c.begin.new.share ≡ shared_in tree.table.book =
    c.begin.ensures.share ∙ (ap shared_in c.book.ensures.book ∙ ap
    (λ (t : TableValue). shared_in t.book) c.into_table-table.ensures.same) in
    record {
      left = omega (arith, ap length split, inv.left, ap length trees, other);
      count = omega (arith, inv.count, ap length opening, one, ap length trees, other);
      stocks = stocks_left;
      none_counted = rw c.pop.ensures.rest (All-take (λ stock. stock ≡ no_changes) _ _ inv.none_counted);
      shares = shares_left;
      none_changed = rw c.pop-in-loop-tree.ensures.rest (All-take (λ share. share ≡ no_changes) _ _ inv.none_changed);
      alike = All-tail (λ (table : TableValue). table.config ≡ g.I.MadeBy.config) tree.table (tables_of rest) (rw split at inv.alike);
      ranges =
          one_left (map (λ tree. tree.range) c.loop-tree.trees.items) _ _ c.in_forest.result.range tree.range (ranges_in rest)
          (rw trees (map-append (λ tree. tree.range) c.loop-tree.trees.items (c.in_forest.result ∷ [])))
          (c.in_forest.ensures.range ∙ c.range-range.ensures.same) (rw split at inv.ranges);
      books =
          one_left c.loop-tree.opening.items _ _ c.begin.new.share (shared_in tree.table.book) (books_of (tables_of rest)) opening book
          (rw split at inv.books);
      room = (rw c.push_reserved-in-loop-tree.ensures.capacity inv.room.0, rw c.push_reserved.ensures.capacity inv.room.1);
    }
