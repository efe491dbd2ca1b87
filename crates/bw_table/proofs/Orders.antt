-- The next pair and the one before, found leaf by leaf.
use Rattle.std.proofs.Common.{◌≡◌, ◌↔◌, ℕ, ◌+◌, ◌-◌, ◌^◌, ◌<◌, ◌≤◌, true, List, [], ◌∷◌, ◌++◌, length, take, Option, Some, None, refl, sym, ap, ◌∙◌, subst, arith, ⊎_elim}
use Rattle.std.proofs.lemmas.Bool.{cases_lt}
use Rattle.std.proofs.lemmas.Bool.Decides.{nat_tests}
use Rattle.bw_keys.specs.declared.page.Pid.{Pid}
use Rattle.bw_keys.specs.Ranges.{key_count, end_of}
use Rattle.bw_delta.specs.Entries.{at, below, from, rises, first_from, last_below, last_upto}
use Rattle.bw_delta.proofs.Rises.{rises-from}
use Rattle.bw_chain.specs.Leaves.{AppendsLeaf}
use Rattle.bw_chain.proofs.Firsts.{at-before, first_from-bound}
use Rattle.bw_chain.proofs.Lasts.{last_from_low, last_below-bound}
use Rattle.bw_chain.proofs.Overlays.{at-from_in, same_entries}
use Rattle.bw_step.specs.Stages.{is_in_row}
use Rattle.bw_law.specs.Laws.{IsLeafOf, IsTheMap}
use Rattle.bw_law.specs.Slots.{SlotValue, pairs_in}
use Rattle.bw_law.specs.Tables.{TableValue, slot_at, outlines, Lawful, Booked, Maps, joined_pairs}
use Rattle.bw_law.proofs.Count.{joined_count}
use Rattle.bw_law.proofs.Facts.{leaf_decides, range_is_among_keys, range_is_not_empty, right_is_next}
use Rattle.bw_law.proofs.Lists.{found_within}
use Rattle.bw_law.proofs.MapAndTerms.{map_law, leaf_pairs_rise}
use Rattle.bw_law.proofs.RowList.{row_of}
use Rattle.bw_law.proofs.Shares.{leaf_pairs_in_row}
use Rattle.bw_table.specs.Orders.{HasNoKeyWithin, IsNextAt, IsPreviousAt, IsRightSibling, ArePairsWithin, HasPairs}

-- Lists.

module _ {X : Type 0} where
  -- the first entry from a key on is there, and none before it
  pub first_is_there : (low end key : ℕ) (e : ℕ × X) (es : List (ℕ × X)) → rises low end es ≡ true → first_from key es ≡ Some e → at e.0 es ≡ Some e.1
  first_is_there low end key e [] rise first = cc
  first_is_there low end key e (d ∷ es) rise first = grind (arith, nat_tests, first_is_there (d.0 + 1) end key e es, first_from-bound key e es)

  pub none_before_first : (low end key k : ℕ) (e : ℕ × X) (es : List (ℕ × X)) → rises low end es ≡ true → first_from key es ≡ Some e → key ≤ k → k < e.0 → at k es ≡ None
  none_before_first low end key k e [] rise first from before = refl
  none_before_first low end key k e (d ∷ es) rise first from before = grind (arith, nat_tests, none_before_first (d.0 + 1) end key k e es, at-before (d.0 + 1) end k es)

  pub none_from : (key k : ℕ) (es : List (ℕ × X)) → first_from key es ≡ None → key ≤ k → at k es ≡ None
  none_from key k [] first from = refl
  none_from key k (d ∷ es) first from = grind (arith, nat_tests, none_from key k es)

  -- the last entry below an end is there, and none after it
  pub last_is_there : (low past end : ℕ) (e : ℕ × X) (es : List (ℕ × X)) → rises low past es ≡ true → last_below end es ≡ Some e → at e.0 es ≡ Some e.1
  last_is_there low past end e [] rise last = cc
  last_is_there low past end e (d ∷ es) rise last = grind (arith, nat_tests, last_is_there (d.0 + 1) past end e es, last_from_low (d.0 + 1) past end e es)

  pub none_below : (end k : ℕ) (es : List (ℕ × X)) → last_below end es ≡ None → k < end → at k es ≡ None
  none_below end k [] last below = refl
  none_below end k (d ∷ es) last below = grind (arith, nat_tests, none_below end k es)

  pub none_after_last : (low past end k : ℕ) (e : ℕ × X) (es : List (ℕ × X)) → rises low past es ≡ true → last_below end es ≡ Some e → e.0 < k → k < end → at k es ≡ None
  none_after_last low past end k e [] rise last after below = refl
  none_after_last low past end k e (d ∷ es) rise last after below =
      grind (arith, nat_tests, none_after_last (d.0 + 1) past end k e es, none_below end k es, last_from_low (d.0 + 1) past end e es)

-- what has the same values is the same
pub same_option : (a b : Option ℕ) → ((value : ℕ) → (a ≡ Some value) ↔ (b ≡ Some value)) → a ≡ b
same_option None None same = refl
same_option None (Some y) same = (same y).1 refl
same_option (Some x) b same = sym ((same x).0 refl)

-- The map.

module _ (table : TableValue) where
  -- one list is the map
  pub one_map : (xs ys : List (ℕ × ℕ)) → IsTheMap table xs → IsTheMap table ys → xs ≡ ys
  one_map xs ys first second = same_entries 0 key_count xs ys first.rise second.rise
      (λ key. same_option (at key xs) (at key ys) (λ value. ((λ x. (second.same key value).1 ((first.same key value).0 x)), (λ y. (first.same key value).1 ((second.same key value).0 y)))))

  -- and has as many pairs as the book says
  pub book_counts : Lawful table → Booked table → HasPairs table (table.book.inserted - table.book.removed)
  book_counts law booked pairs is =
      let row = row_of key_count (outlines table.slots) table.root law.rows 0 (omega arith) in
      omega (arith, booked, joined_count table.slots row.0 row.1, ap length (one_map (joined_pairs table.slots row.0) pairs (map_law table law row.0 row.1) is))

  -- a leaf has just the pairs of the map in its range
  pub leaf_has_pairs_within : Lawful table → (key page : ℕ) (slot : SlotValue) → IsLeafOf table key page → slot ≡ slot_at table page → ArePairsWithin table slot.low (end_of slot.high) (pairs_in slot)
  leaf_has_pairs_within law key page slot leaf is = subst (λ (s : SlotValue). ArePairsWithin table s.low (end_of s.high) (pairs_in s)) (sym is) (record {
    rise = subst (λ (es : List (ℕ × ℕ)). rises (slot_at table page).low (end_of (slot_at table page).high) es ≡ true) (leaf_pairs_in_row (slot_at table page) leaf.in_row leaf.is_leaf) (leaf_pairs_rise table law page leaf.in_row leaf.is_leaf);
    same = λ k value from below. let decides = leaf_decides table law page k value leaf.in_row leaf.is_leaf (from, below) in (decides.1, decides.0);
  })

  -- and from a key on just those from there on
  pub pairs_within_from : (low key end : ℕ) (es : List (ℕ × ℕ)) → low ≤ key → ArePairsWithin table low end es
      → ArePairsWithin table key end (from key es)
  pairs_within_from low key end es above are = record {
    rise = rises-from end low key es are.rise;
    same = λ k value past below. rw (at-from_in key k es past) (are.same k value (omega (arith, above, past)) below);
  }

  -- so what a list took of the key's leaf are pairs of the map
  module _ (law : Lawful table) (key page high limit : ℕ) (slot : SlotValue) (leaf : IsLeafOf table key page)
      (is : slot ≡ slot_at table page) where
    pub appends_leaf : (run old new : List (ℕ × ℕ)) → run ≡ below high (from key (pairs_in slot)) → length run < 2 ^ 64
        → new ≡ old ++ take limit run
        → AppendsLeaf (ArePairsWithin table) key high limit (end_of slot.high) old new
    appends_leaf run old new run_is counted appended =
        let spans : (slot.low ≤ key) × (key < end_of slot.high) = rw is leaf.spans in
        let whole = leaf_has_pairs_within law key page slot leaf is in
        let own = pairs_within_from slot.low key (end_of slot.high) (pairs_in slot) spans.0 whole in
        record {
          pairs = from key (pairs_in slot);
          shown = own;
          rise = own.rise;
          above = spans.1;
          counted = rw run_is at counted;
          appended = rw run_is at appended;
        }

  -- the leaf to which the right link of a leaf leads is the one on its right
  pub right_sibling_is : Lawful table → (page : ℕ) (right : Pid) (slot : SlotValue) → is_in_row (slot_at table page).stage ≡ true →
      (slot_at table page).level ≡ 0 → (slot_at table page).right ≡ Some right → slot ≡ slot_at table right.0
      → IsRightSibling table page (record { pid = right; low = slot.low; high = slot.high; pairs = pairs_in slot })
  right_sibling_is law page right slot here leaf link is =
      let next = right_is_next table law page right here link in
      let found : IsLeafOf table (end_of (slot_at table page).high) right.0 = record {
        in_row = next.0;
        is_leaf = next.1 ∙ leaf;
        spans = (omega (arith, next.2), omega (arith, next.2, range_is_not_empty table law right.0 next.0));
      } in record {
        found = found;
        lent = ap (λ (s : SlotValue). record { pid = right; low = s.low; high = s.high; pairs = pairs_in s }) is;
        begins = ap (λ (s : SlotValue). s.low) is ∙ next.2;
        pairs = leaf_has_pairs_within law (end_of (slot_at table page).high) right.0 slot found is;
      }

  -- and a leaf with one doesn't end at the top
  pub is_not_last : Lawful table → (page : ℕ) (right : Pid) → is_in_row (slot_at table page).stage ≡ true →
      (slot_at table page).right ≡ Some right → end_of (slot_at table page).high < key_count
  is_not_last law page right here link =
      let next = right_is_next table law page right here link in
      omega (arith, next.2, range_is_not_empty table law right.0 next.0, range_is_among_keys table law right.0 next.0)

  -- two ranges that meet
  pub none_within_both : (low middle end : ℕ) → HasNoKeyWithin table low middle → HasNoKeyWithin table middle end → HasNoKeyWithin table low end
  none_within_both low middle end first second k value from below maps = ⊎_elim
      (λ (left : k < middle). first k value from left maps)
      (λ (right : middle ≤ k). second k value right below maps)
      (cases_lt k middle)

  module _ (low end : ℕ) (es : List (ℕ × ℕ)) (are : ArePairsWithin table low end es) where
    -- where the leaf has no key the map has none
    absent : (k value : ℕ) → low ≤ k → k < end → at k es ≡ None → Maps table.slots k value → ⊥
    absent k value from below none maps = cc (none, (are.same k value from below).1 maps)

    -- a pair of the leaf is one of the map
    present : (pair : ℕ × ℕ) → at pair.0 es ≡ Some pair.1 → Maps table.slots pair.0 pair.1
    present pair found = let within = found_within low end pair.0 pair.1 es are.rise found in (are.same pair.0 pair.1 within.0 within.1).0 found

    before_end : (pair : ℕ × ℕ) → at pair.0 es ≡ Some pair.1 → pair.0 < end
    before_end pair found = (found_within low end pair.0 pair.1 es are.rise found).1

    from_low : (pair : ℕ × ℕ) → at pair.0 es ≡ Some pair.1 → low ≤ pair.0
    from_low pair found = (found_within low end pair.0 pair.1 es are.rise found).0

    module _ (key from : ℕ) (later : key ≤ from) (low_from : low ≤ from) (none : HasNoKeyWithin table key from) where
      pub next_in_leaf : (pair : ℕ × ℕ) → first_from from es ≡ Some pair → IsNextAt table key pair
      next_in_leaf pair first =
          let found = first_is_there low end from pair es are.rise first in
          let past = first_from-bound from pair es first in
          let under = before_end pair found in record {
            at_or_past = omega (arith, later, past);
            there = present pair found;
            none_between = none_within_both key from pair.0 none (λ k value from_k below. absent k value (omega (arith, low_from, from_k)) (omega (arith, under, below)) (none_before_first low end from k pair es are.rise first from_k below));
          }

      pub none_in_leaf : first_from from es ≡ None → HasNoKeyWithin table key end
      none_in_leaf first = none_within_both key from end none (λ k value from_k below. absent k value (omega (arith, low_from, from_k)) below (none_from from k es first from_k))

    module _ (key upto : ℕ) (earlier : upto ≤ key) (upto_end : upto < end) (none : HasNoKeyWithin table (upto + 1) (key + 1)) where
      pub previous_in_leaf : (pair : ℕ × ℕ) → last_upto upto es ≡ Some pair → IsPreviousAt table key pair
      previous_in_leaf pair last =
          let found = last_is_there low end (upto + 1) pair es are.rise last in
          let under = last_below-bound (upto + 1) pair es last in
          let above = from_low pair found in record {
            at_or_before = omega (arith, earlier, under);
            there = present pair found;
            none_between = none_within_both (pair.0 + 1) (upto + 1) (key + 1) (λ k value from_k below. absent k value (omega (arith, above, from_k)) (omega (arith, upto_end, below)) (none_after_last low end (upto + 1) k pair es are.rise last (omega (arith, from_k)) below)) none;
          }

      pub none_up_in_leaf : last_upto upto es ≡ None → HasNoKeyWithin table low (key + 1)
      none_up_in_leaf last = none_within_both low (upto + 1) (key + 1) (λ k value from_k below. absent k value from_k (omega (arith, upto_end, below)) (none_below (upto + 1) k es last below)) none
