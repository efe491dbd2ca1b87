use Rattle.std.proofs.Common.{rules, ◌≡◌, ◌∙◌, ◌<◌, ◌++◌, [], Some, length, refl, sym, ap, append-nil, append_assoc, length-append, arith}
use Rattle.std.specs.Prelude.{IsErr, slice_get, slice_set}
use Rattle.std.proofs.lemmas.Option.{slice_get_read}
use Rattle.bw_keys.specs.Ranges.{end_of, key_count}
use Rattle.bw_forest.specs.Bounds.{IsTreeOf, ranges_of}
use Rattle.bw_procedures.proofs.Removals.{spent_grows}
use Rattle.nifforan_forest.specs.Faults.{EarnsInATree}
use Rattle.nifforan_forest.proofs.Leaves.{no_end}
use Rattle.nifforan_forest.proofs.Placing.{still_placed}
use Rattle.nifforan_forest.proofs.Reading.{reads_none}
use Rattle.nifforan_forest.proofs.Spending.{none_spend, one_spends, spent_at}
use Rattle.nifforan_forest.proofs.Trees.{ends_past, passed_on, tree_earned, tree_read}
use Rattle.nifforan_forest.proofs.worker.ForestWorker.scan.Goals as goal

pub trees-init : goal.trees-init
trees-init g c = record {
  spends = none_spend g.H.Steps.seen g.H.Steps.follows g.met.H.Steps.stays c.args.self.now.hands.items;
  from_low = omega arith;
  added = ([], sym (append-nil _), omega arith, (c.args.low, reads_none _ _, omega arith, omega (arith, c.ranges.low.fits), λ more. refl));
}

pub invariant_of-self-clause-placed : goal.invariant_of-self-clause-placed
invariant_of-self-clause-placed g c =
    still_placed g.H.ForestHand.range g.H.ForestHand.bounds c.trees.self.hands.items c.trees.self.placed c.tree_of-tree.result
    c.index_mut.result.now c.scan_tree.new.hand c.index_mut.ensures.value
    (g.met.H.ForestHand.stays_there c.index_mut.result.now c.scan_tree.new.hand c.scan_tree.ensures.follows)

pub trees-preserved : goal.trees-preserved
trees-preserved g c =
    let seen = g.H.Steps.seen in
    let follows = g.H.Steps.follows in
    let range_of = g.H.ForestHand.range in
    let shows = g.H.Steps.shows in
    let joins = g.met.H.Steps.joins in
    let stays = g.met.H.ForestHand.stays_there in
    let inv = c.trees.invariant in
    let so_far = inv.added in
    let bounds = g.H.ForestHand.bounds in
    let hands = c.trees.self.hands.items in
    let tree = c.tree_of-tree.result in
    let range = c.range-end.result in
    let hand = c.index_mut.result.now in
    let here : slice_get (ranges_of bounds) tree ≡ Some range = rw c.trees.self.divided at c.range-end.ensures.range in
    let holds : IsTreeOf bounds c.trees.at tree = rw c.trees.self.divided at c.tree_of-tree.ensures.tree in
    let less : tree < length hands = omega (arith, c.tree_of-tree.ensures.there, c.trees.self.each) in
    let is : slice_get hands tree ≡ Some hand = slice_get_read hands (length hands) tree hand refl less c.index_mut.ensures.value in
    let past = ends_past bounds c.trees.at tree range here holds in
    let at_end : so_far.3.0 ≡ c.trees.at = so_far.3.4 c.trees-test.true in
    let part = c.in_ok-left.ensures.scans in
    let end : end_of range.high ≡ c.in-Key.next = ap end_of c.in-Key.is in
    let long : length part.added ≡ c.in_ok-left.field-0 =
    omega (arith, c.in_ok-left.ensures.count, ap length part.list, length-append c.trees.list.items part.added) in
    record {
      spends =
          one_spends seen follows joins c.args.self.now.hands.items hands tree hand c.scan_tree.new.hand
          is c.scan_tree.ensures.follows c.scan_tree.ensures.spends inv.spends;
      from_low = omega (arith, inv.from_low, past.1, end);
      added = (
        so_far.0 ++ part.added,
        part.list ∙ (ap (λ l. l ++ part.added) so_far.1 ∙ append_assoc c.args.list.now.items so_far.0 part.added),
        omega (arith, length-append so_far.0 part.added, so_far.2, long, part.few),
        (
          part.reached,
          tree_read bounds seen follows range_of shows joins stays c.args.self.now.hands.items hands tree
              range hand c.scan_tree.new.hand c.args.low c.trees.at part.reached so_far.0 part.added inv.from_low part.from_low part.within
              past.0 here is c.scan_tree.ensures.follows inv.spends (rw at_end at so_far.3.1) part.reads,
          omega (arith, inv.from_low, part.from_low),
          omega (arith, part.within, c.end_among_keys.ensures),
          λ more. part.to_the_end refl (omega (arith, long, more)) ∙ end,
        ),
      );
    }

pub returns-in_err-left-clause-scans : goal.returns-in_err-left-clause-scans
returns-in_err-left-clause-scans g c =
    let seen = g.H.Steps.seen in
    let follows = g.H.Steps.follows in
    let range_of = g.H.ForestHand.range in
    let shows = g.H.Steps.shows in
    let joins = g.met.H.Steps.joins in
    let stays = g.met.H.ForestHand.stays_there in
    let inv = c.trees.invariant in
    let so_far = inv.added in
    let bounds = g.H.ForestHand.bounds in
    let hands = c.trees.self.hands.items in
    let tree = c.tree_of-tree.result in
    let range = c.range-end.result in
    let hand = c.index_mut.result.now in
    let here : slice_get (ranges_of bounds) tree ≡ Some range = rw c.trees.self.divided at c.range-end.ensures.range in
    let holds : IsTreeOf bounds c.trees.at tree = rw c.trees.self.divided at c.tree_of-tree.ensures.tree in
    let less : tree < length hands = omega (arith, c.tree_of-tree.ensures.there, c.trees.self.each) in
    let is : slice_get hands tree ≡ Some hand = slice_get_read hands (length hands) tree hand refl less c.index_mut.ensures.value in
    let past = ends_past bounds c.trees.at tree range here holds in
    let at_end : so_far.3.0 ≡ c.trees.at = so_far.3.4 c.trees-test.true in
    let part = c.in_err-left.ensures.scans in
    let err : IsErr c.from_residual.result = search rules in
    record {
      added = so_far.0 ++ part.added;
      list = part.list ∙ (ap (λ l. l ++ part.added) so_far.1 ∙ append_assoc c.args.list.now.items so_far.0 part.added);
      few = omega (arith, length-append so_far.0 part.added, so_far.2, part.few);
      reached = part.reached;
      from_low = omega (arith, inv.from_low, part.from_low);
      within = omega (arith, part.within, c.end_among_keys.ensures);
      reads =
          tree_read bounds seen follows range_of shows joins stays c.args.self.now.hands.items hands tree
          range hand c.scan_tree.new.hand c.args.low c.trees.at part.reached so_far.0 part.added inv.from_low part.from_low part.within
          past.0 here is c.scan_tree.ensures.follows inv.spends (rw at_end at so_far.3.1) part.reads;
      to_the_end = λ ok less. absurd (no_end c.from_residual.result err ok);
    }

pub returns-in_err-left-clause-spends : goal.returns-in_err-left-clause-spends
returns-in_err-left-clause-spends g c =
    let seen = g.H.Steps.seen in
    let follows = g.H.Steps.follows in
    let joins = g.met.H.Steps.joins in
    let inv = c.trees.invariant in
    let bounds = g.H.ForestHand.bounds in
    let hands = c.trees.self.hands.items in
    let tree = c.tree_of-tree.result in
    let range = c.range-end.result in
    let hand = c.index_mut.result.now in
    let here : slice_get (ranges_of bounds) tree ≡ Some range = rw c.trees.self.divided at c.range-end.ensures.range in
    let holds : IsTreeOf bounds c.trees.at tree = rw c.trees.self.divided at c.tree_of-tree.ensures.tree in
    let less : tree < length hands = omega (arith, c.tree_of-tree.ensures.there, c.trees.self.each) in
    let is : slice_get hands tree ≡ Some hand = slice_get_read hands (length hands) tree hand refl less c.index_mut.ensures.value in
    one_spends seen follows joins c.args.self.now.hands.items hands tree hand c.scan_tree.new.hand is
    c.scan_tree.ensures.follows c.scan_tree.ensures.spends inv.spends

pub returns-in_default-clause-scans : goal.returns-in_default-clause-scans
returns-in_default-clause-scans g c =
    let seen = g.H.Steps.seen in
    let follows = g.H.Steps.follows in
    let range_of = g.H.ForestHand.range in
    let shows = g.H.Steps.shows in
    let joins = g.met.H.Steps.joins in
    let stays = g.met.H.ForestHand.stays_there in
    let inv = c.trees.invariant in
    let so_far = inv.added in
    let bounds = g.H.ForestHand.bounds in
    let hands = c.trees.self.hands.items in
    let tree = c.tree_of-tree.result in
    let range = c.range-end.result in
    let hand = c.index_mut.result.now in
    let here : slice_get (ranges_of bounds) tree ≡ Some range = rw c.trees.self.divided at c.range-end.ensures.range in
    let holds : IsTreeOf bounds c.trees.at tree = rw c.trees.self.divided at c.tree_of-tree.ensures.tree in
    let less : tree < length hands = omega (arith, c.tree_of-tree.ensures.there, c.trees.self.each) in
    let is : slice_get hands tree ≡ Some hand = slice_get_read hands (length hands) tree hand refl less c.index_mut.ensures.value in
    let past = ends_past bounds c.trees.at tree range here holds in
    let at_end : so_far.3.0 ≡ c.trees.at = so_far.3.4 c.trees-test.true in
    let part = c.in_ok-left.ensures.scans in
    let end = ap end_of c.in_default.is in
    let long : length part.added ≡ c.in_ok-left.field-0 =
    omega (arith, c.in_ok-left.ensures.count, ap length part.list, length-append c.trees.list.items part.added) in
    record {
      added = so_far.0 ++ part.added;
      list = part.list ∙ (ap (λ l. l ++ part.added) so_far.1 ∙ append_assoc c.args.list.now.items so_far.0 part.added);
      few = omega (arith, length-append so_far.0 part.added, so_far.2, part.few);
      reached = part.reached;
      from_low = omega (arith, inv.from_low, part.from_low);
      within = omega (arith, part.within, c.end_among_keys.ensures);
      reads =
          tree_read bounds seen follows range_of shows joins stays c.args.self.now.hands.items hands tree
          range hand c.scan_tree.new.hand c.args.low c.trees.at part.reached so_far.0 part.added inv.from_low part.from_low part.within
          past.0 here is c.scan_tree.ensures.follows inv.spends (rw at_end at so_far.3.1) part.reads;
      to_the_end = λ ok less. part.to_the_end refl (omega (arith, length-append so_far.0 part.added, so_far.2, less)) ∙ end;
    }

pub returns-in_default-clause-spends : goal.returns-in_default-clause-spends
returns-in_default-clause-spends g c =
    let seen = g.H.Steps.seen in
    let follows = g.H.Steps.follows in
    let joins = g.met.H.Steps.joins in
    let inv = c.trees.invariant in
    let bounds = g.H.ForestHand.bounds in
    let hands = c.trees.self.hands.items in
    let tree = c.tree_of-tree.result in
    let range = c.range-end.result in
    let hand = c.index_mut.result.now in
    let here : slice_get (ranges_of bounds) tree ≡ Some range = rw c.trees.self.divided at c.range-end.ensures.range in
    let holds : IsTreeOf bounds c.trees.at tree = rw c.trees.self.divided at c.tree_of-tree.ensures.tree in
    let less : tree < length hands = omega (arith, c.tree_of-tree.ensures.there, c.trees.self.each) in
    let is : slice_get hands tree ≡ Some hand = slice_get_read hands (length hands) tree hand refl less c.index_mut.ensures.value in
    one_spends seen follows joins c.args.self.now.hands.items hands tree hand c.scan_tree.new.hand is
    c.scan_tree.ensures.follows c.scan_tree.ensures.spends inv.spends

pub returns-in_err-left-clause-fault : goal.returns-in_err-left-clause-fault
returns-in_err-left-clause-fault g c =
    let seen = g.H.Steps.seen in
    let follows = g.H.Steps.follows in
    let range_of = g.H.ForestHand.range in
    let shows = g.H.Steps.shows in
    let joins = g.met.H.Steps.joins in
    let stays = g.met.H.ForestHand.stays_there in
    let inv = c.trees.invariant in
    let bounds = g.H.ForestHand.bounds in
    let olds = c.args.self.now.hands.items in
    let hands = c.trees.self.hands.items in
    let tree = c.tree_of-tree.result in
    let range = c.range-end.result in
    let hand = c.index_mut.result.now in
    let now = c.scan_tree.new.hand in
    let here : slice_get (ranges_of bounds) tree ≡ Some range = rw c.trees.self.divided at c.range-end.ensures.range in
    let holds : IsTreeOf bounds c.trees.at tree = rw c.trees.self.divided at c.tree_of-tree.ensures.tree in
    let less : tree < length hands = omega (arith, c.tree_of-tree.ensures.there, c.trees.self.each) in
    let is : slice_get hands tree ≡ Some hand = slice_get_read hands (length hands) tree hand refl less c.index_mut.ensures.value in
    let past = ends_past bounds c.trees.at tree range here holds in
    let first = spent_at seen follows olds hands tree hand is inv.spends in
    passed_on (EarnsInATree bounds seen c.args.low key_count olds (slice_set hands tree now)) _ _ c.from_residual.ensures.1
    (tree_earned bounds seen follows range_of shows joins stays olds hands tree range hand now
    c.args.low key_count c.trees.at _ first.0 inv.from_low (omega (arith, past.1, c.end_among_keys.ensures)) holds first.1 is
    (spent_grows _ _ first.3) c.in_err-left.ensures.fault)
