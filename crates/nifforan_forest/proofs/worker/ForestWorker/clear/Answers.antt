use Rattle.std.proofs.Common.{rules, ◌≡◌, ◌∙◌, ◌<◌, ◌+◌, min, Some, length, refl, sym, ap, arith}
use Rattle.std.specs.Prelude.{slice_get, slice_set}
use Rattle.std.proofs.lemmas.Option.{slice_get_read}
use Rattle.bw_keys.specs.declared.range.Range.{Range}
use Rattle.bw_keys.specs.Ranges.{end_of}
use Rattle.bw_forest.specs.Bounds.{IsTreeOf, ranges_of}
use Rattle.bw_procedures.specs.Calls.{Earned}
use Rattle.bw_procedures.proofs.Removals.{no_fault}
use Rattle.nifforan_forest.specs.Clears.{Removes}
use Rattle.nifforan_forest.specs.Faults.{EarnsInATree}
use Rattle.nifforan_forest.proofs.Asking.{capped}
use Rattle.nifforan_forest.proofs.Placing.{has_range, still_placed}
use Rattle.nifforan_forest.proofs.Sweeping.{did_at, removes_none, removes_of, together_none}
use Rattle.nifforan_forest.proofs.Trees.{ends_past, if_any, tree_cleared, tree_cleared_high, tree_earned, tree_swept}
use Rattle.nifforan_forest.proofs.worker.ForestWorker.clear.Goals as goal

pub trees-init : goal.trees-init
trees-init g c = record {
  from_low = omega arith;
  removes = (
    0,
    together_none _ (removes_none g.H.Steps.seen g.H.Steps.follows g.H.ForestHand.range g.met.H.Steps.stays _ _)
        c.args.self.now.hands.items,
    refl,
  );
  swept = λ key above below. absurd (omega (arith, above, below));
}

pub invariant_of-self-clause-placed : goal.invariant_of-self-clause-placed
invariant_of-self-clause-placed g c =
    still_placed g.H.ForestHand.range g.H.ForestHand.bounds c.trees.self.hands.items c.trees.self.placed c.tree_of-tree.result
    c.index_mut.result.now c.clear-part.new.self c.index_mut.ensures.value
    (g.met.H.ForestHand.stays_there c.index_mut.result.now c.clear-part.new.self c.clear-part.ensures.follows)

pub trees-preserved : goal.trees-preserved
trees-preserved g c =
    let seen = g.H.Steps.seen in
    let follows = g.H.Steps.follows in
    let range_of = g.H.ForestHand.range in
    let shows = g.H.Steps.shows in
    let joins = g.met.H.Steps.joins in
    let stays = g.met.H.ForestHand.stays_there in
    let inv = c.trees.invariant in
    let bounds = g.H.ForestHand.bounds in
    let hands = c.trees.self.hands.items in
    let tree = c.tree_of-tree.result in
    let range = c.range-end.result in
    let hand = c.index_mut.result.now in
    let here : slice_get (ranges_of bounds) tree ≡ Some range = rw c.trees.self.divided at c.range-end.ensures.range in
    let holds : IsTreeOf bounds c.trees.at tree = rw c.trees.self.divided at c.tree_of-tree.ensures.tree in
    let less : tree < length hands = omega (arith, c.tree_of-tree.ensures.there, c.trees.self.each) in
    let is : slice_get hands tree ≡ Some hand = slice_get_read hands (length hands) tree hand refl less c.index_mut.ensures.value in
    let past = ends_past bounds c.trees.at tree range here holds in
    let upto = end_of c.lower.result in
    let is_upto : end_of c.lower.result ≡ min (end_of range.high) (end_of c.args.high) = omega (arith, c.lower.ensures) in
    let own : range_of hand ≡ range = has_range range_of bounds hands c.trees.self.placed tree hand range is here in
    let part : Removes seen follows range_of c.trees.at upto c.clear-part.result.removed hand c.clear-part.new.self =
    removes_of seen follows range_of c.trees.at upto c.clear-part.result.removed hand c.clear-part.new.self
    c.clear-part.ensures.follows c.clear-part.ensures.grows c.clear-part.ensures.receipts
    (omega (arith, past.0, ap (λ (r : Range). r.low) own)) (omega (arith, is_upto, ap (λ (r : Range). end_of r.high) own)) in
    let end : end_of range.high ≡ c.in-Key.next = ap end_of c.in-Key.is in
    let so_upto : end_of c.lower.result ≡ min c.in-Key.next (end_of c.args.high) = rw end at is_upto in
    record {
      from_low = omega (arith, inv.from_low, past.1, end);
      removes = (
        inv.removes.0 + c.clear-part.result.removed,
        tree_cleared bounds seen follows range_of shows joins stays c.args.self.now.hands.items hands tree
            range hand c.clear-part.new.self c.args.low (end_of c.args.high) c.trees.at c.in-Key.next (end_of c.lower.result) inv.removes.0
            c.clear-part.result.removed inv.from_low (omega (arith, past.1, end)) so_upto is part inv.removes.1,
        capped c.trees.removed inv.removes.0 c.clear-part.result.removed _ inv.removes.2 c.saturating_add-removed.ensures,
      );
      swept =
          tree_swept bounds seen follows range_of shows joins stays c.args.self.now.hands.items hands tree
          range hand c.clear-part.new.self c.args.low (end_of c.args.high) c.trees.at c.in-Key.next (end_of c.lower.result)
          c.clear-part.result.removed inv.removes.0 inv.from_low so_upto (sym end) past.0 here is part inv.removes.1 inv.swept
          (c.clear-part.ensures.swept (no_fault _ (sym c.is_some.ensures ∙ c.if-is_some.false)));
    }

pub returns-then-is_some-clause-removes : goal.returns-then-is_some-clause-removes
returns-then-is_some-clause-removes g c =
    let seen = g.H.Steps.seen in
    let follows = g.H.Steps.follows in
    let range_of = g.H.ForestHand.range in
    let shows = g.H.Steps.shows in
    let joins = g.met.H.Steps.joins in
    let stays = g.met.H.ForestHand.stays_there in
    let inv = c.trees.invariant in
    let bounds = g.H.ForestHand.bounds in
    let hands = c.trees.self.hands.items in
    let tree = c.tree_of-tree.result in
    let range = c.range-end.result in
    let hand = c.index_mut.result.now in
    let here : slice_get (ranges_of bounds) tree ≡ Some range = rw c.trees.self.divided at c.range-end.ensures.range in
    let holds : IsTreeOf bounds c.trees.at tree = rw c.trees.self.divided at c.tree_of-tree.ensures.tree in
    let less : tree < length hands = omega (arith, c.tree_of-tree.ensures.there, c.trees.self.each) in
    let is : slice_get hands tree ≡ Some hand = slice_get_read hands (length hands) tree hand refl less c.index_mut.ensures.value in
    let past = ends_past bounds c.trees.at tree range here holds in
    let upto = end_of c.lower.result in
    let is_upto : end_of c.lower.result ≡ min (end_of range.high) (end_of c.args.high) = omega (arith, c.lower.ensures) in
    let own : range_of hand ≡ range = has_range range_of bounds hands c.trees.self.placed tree hand range is here in
    let part : Removes seen follows range_of c.trees.at upto c.clear-part.result.removed hand c.clear-part.new.self =
    removes_of seen follows range_of c.trees.at upto c.clear-part.result.removed hand c.clear-part.new.self
    c.clear-part.ensures.follows c.clear-part.ensures.grows c.clear-part.ensures.receipts
    (omega (arith, past.0, ap (λ (r : Range). r.low) own)) (omega (arith, is_upto, ap (λ (r : Range). end_of r.high) own)) in (
      inv.removes.0 + c.clear-part.result.removed,
      tree_cleared_high bounds seen follows range_of shows joins stays c.args.self.now.hands.items hands tree
          range hand c.clear-part.new.self c.args.low (end_of c.args.high) c.trees.at (end_of range.high) (end_of c.lower.result)
          inv.removes.0 c.clear-part.result.removed inv.from_low (omega (arith, past.1)) is_upto is part inv.removes.1,
      capped c.trees.removed inv.removes.0 c.clear-part.result.removed _ inv.removes.2 c.saturating_add-removed.ensures,
    )

pub returns-in_default-clause-removes : goal.returns-in_default-clause-removes
returns-in_default-clause-removes g c =
    let seen = g.H.Steps.seen in
    let follows = g.H.Steps.follows in
    let range_of = g.H.ForestHand.range in
    let shows = g.H.Steps.shows in
    let joins = g.met.H.Steps.joins in
    let stays = g.met.H.ForestHand.stays_there in
    let inv = c.trees.invariant in
    let bounds = g.H.ForestHand.bounds in
    let hands = c.trees.self.hands.items in
    let tree = c.tree_of-tree.result in
    let range = c.range-end.result in
    let hand = c.index_mut.result.now in
    let here : slice_get (ranges_of bounds) tree ≡ Some range = rw c.trees.self.divided at c.range-end.ensures.range in
    let holds : IsTreeOf bounds c.trees.at tree = rw c.trees.self.divided at c.tree_of-tree.ensures.tree in
    let less : tree < length hands = omega (arith, c.tree_of-tree.ensures.there, c.trees.self.each) in
    let is : slice_get hands tree ≡ Some hand = slice_get_read hands (length hands) tree hand refl less c.index_mut.ensures.value in
    let past = ends_past bounds c.trees.at tree range here holds in
    let upto = end_of c.lower.result in
    let is_upto : end_of c.lower.result ≡ min (end_of range.high) (end_of c.args.high) = omega (arith, c.lower.ensures) in
    let own : range_of hand ≡ range = has_range range_of bounds hands c.trees.self.placed tree hand range is here in
    let part : Removes seen follows range_of c.trees.at upto c.clear-part.result.removed hand c.clear-part.new.self =
    removes_of seen follows range_of c.trees.at upto c.clear-part.result.removed hand c.clear-part.new.self
    c.clear-part.ensures.follows c.clear-part.ensures.grows c.clear-part.ensures.receipts
    (omega (arith, past.0, ap (λ (r : Range). r.low) own)) (omega (arith, is_upto, ap (λ (r : Range). end_of r.high) own)) in (
      inv.removes.0 + c.clear-part.result.removed,
      tree_cleared_high bounds seen follows range_of shows joins stays c.args.self.now.hands.items hands tree
          range hand c.clear-part.new.self c.args.low (end_of c.args.high) c.trees.at (end_of range.high) (end_of c.lower.result)
          inv.removes.0 c.clear-part.result.removed inv.from_low (omega (arith, past.1)) is_upto is part inv.removes.1,
      capped c.trees.removed inv.removes.0 c.clear-part.result.removed _ inv.removes.2 c.saturating_add-removed.ensures,
    )

pub returns-in_default-clause-swept : goal.returns-in_default-clause-swept
returns-in_default-clause-swept g c ended key above below =
    let seen = g.H.Steps.seen in
    let follows = g.H.Steps.follows in
    let range_of = g.H.ForestHand.range in
    let shows = g.H.Steps.shows in
    let joins = g.met.H.Steps.joins in
    let stays = g.met.H.ForestHand.stays_there in
    let inv = c.trees.invariant in
    let bounds = g.H.ForestHand.bounds in
    let hands = c.trees.self.hands.items in
    let tree = c.tree_of-tree.result in
    let range = c.range-end.result in
    let hand = c.index_mut.result.now in
    let here : slice_get (ranges_of bounds) tree ≡ Some range = rw c.trees.self.divided at c.range-end.ensures.range in
    let holds : IsTreeOf bounds c.trees.at tree = rw c.trees.self.divided at c.tree_of-tree.ensures.tree in
    let less : tree < length hands = omega (arith, c.tree_of-tree.ensures.there, c.trees.self.each) in
    let is : slice_get hands tree ≡ Some hand = slice_get_read hands (length hands) tree hand refl less c.index_mut.ensures.value in
    let past = ends_past bounds c.trees.at tree range here holds in
    let upto = end_of c.lower.result in
    let is_upto : end_of c.lower.result ≡ min (end_of range.high) (end_of c.args.high) = omega (arith, c.lower.ensures) in
    let own : range_of hand ≡ range = has_range range_of bounds hands c.trees.self.placed tree hand range is here in
    let part : Removes seen follows range_of c.trees.at upto c.clear-part.result.removed hand c.clear-part.new.self =
    removes_of seen follows range_of c.trees.at upto c.clear-part.result.removed hand c.clear-part.new.self
    c.clear-part.ensures.follows c.clear-part.ensures.grows c.clear-part.ensures.receipts
    (omega (arith, past.0, ap (λ (r : Range). r.low) own)) (omega (arith, is_upto, ap (λ (r : Range). end_of r.high) own)) in
    let end = ap end_of c.in_default.is in
    tree_swept bounds seen follows range_of shows joins stays c.args.self.now.hands.items hands tree range
    hand c.clear-part.new.self c.args.low (end_of c.args.high) c.trees.at (end_of range.high) (end_of c.lower.result)
    c.clear-part.result.removed inv.removes.0 inv.from_low is_upto refl past.0 here is part inv.removes.1 inv.swept
    (c.clear-part.ensures.swept (no_fault _ (sym c.is_some.ensures ∙ c.if-is_some.false))) key above
    (omega (arith, end, below, c.end_among_keys.ensures)) below

pub returns-then-is_some-clause-fault : goal.returns-then-is_some-clause-fault
returns-then-is_some-clause-fault g c =
    let seen = g.H.Steps.seen in
    let follows = g.H.Steps.follows in
    let range_of = g.H.ForestHand.range in
    let shows = g.H.Steps.shows in
    let joins = g.met.H.Steps.joins in
    let stays = g.met.H.ForestHand.stays_there in
    let inv = c.trees.invariant in
    let bounds = g.H.ForestHand.bounds in
    let olds = c.args.self.now.hands.items in
    let hands = c.trees.self.hands.items in
    let tree = c.tree_of-tree.result in
    let range = c.range-end.result in
    let hand = c.index_mut.result.now in
    let now = c.clear-part.new.self in
    let holds : IsTreeOf bounds c.trees.at tree = rw c.trees.self.divided at c.tree_of-tree.ensures.tree in
    let less : tree < length hands = omega (arith, c.tree_of-tree.ensures.there, c.trees.self.each) in
    let is : slice_get hands tree ≡ Some hand = slice_get_read hands (length hands) tree hand refl less c.index_mut.ensures.value in
    let under : c.trees.at < end_of c.args.high = search rules in
    let first =
    did_at (Removes seen follows range_of c.args.low (min c.trees.at (end_of c.args.high))) olds hands tree inv.removes.0 hand is
    inv.removes.1 in
    if_any (Earned (seen hand) (seen now))
    (EarnsInATree bounds seen c.args.low (end_of c.args.high) olds (slice_set hands tree now))
    (λ fault earned. tree_earned bounds seen follows range_of shows joins stays olds hands tree range hand now
    c.args.low (end_of c.args.high) c.trees.at fault first.1 inv.from_low under holds first.2 is first.3.grows earned)
    c.clear-part.result.fault c.clear-part.ensures.fault
