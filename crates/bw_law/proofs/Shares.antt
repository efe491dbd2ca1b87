-- What the slots add to the map, and to the number of its pairs, after some of them were written.
use Rattle.std.proofs.Common.{◌≡◌, ◌≢◌, ◌⊎◌, ◌↔◌, ℕ, ◌+◌, ◌<◌, true, false, cond, eqb, List, [], length, set, Some, refl, sym, ◌∙◌, ap, inl, inr, ⊎_elim, arith}
use Rattle.std.proofs.lemmas.List.{length-set}
use Rattle.std.proofs.lemmas.List.Sums.{sum_by-set}
use Rattle.std.proofs.lemmas.Bool.{cases_eq, cases_Bool, eq-eqb, eqb-true, and_parts}
use Rattle.bw_keys.specs.Ranges.{key_count, end_of}
use Rattle.bw_delta.specs.Entries.{at}
use Rattle.bw_delta.specs.Pairs.{pairs}
use Rattle.bw_delta.specs.Fence.{fences}
use Rattle.bw_delta.proofs.Stands.{pairs_rise}
use Rattle.bw_step.specs.declared.survey.Book.{Book}
use Rattle.bw_step.specs.Stages.{is_in_row}
use Rattle.bw_law.specs.Slots.{SlotValue, free_slot, slot_in, pairs_in}
use Rattle.bw_law.specs.Rows.{Spans, Rows}
use Rattle.bw_law.specs.Tables.{TableValue, Booked, outlines, Pages, is_leaf_in_row, leaf_pairs, Maps, SameMap, pair_count}
use Rattle.bw_law.proofs.Chains.{low_is, high_is, pairs_are}
use Rattle.bw_law.proofs.Lists.{found_within}
use Rattle.bw_law.proofs.Slots.{slot_written, slot_kept}

-- a leaf in its row has its pairs for a share, and a page in no row has none
pub leaf_pairs_in_row : (slot : SlotValue) → is_in_row slot.stage ≡ true → slot.level ≡ 0 → leaf_pairs slot ≡ pairs_in slot
leaf_pairs_in_row slot in_row leaf = rw (in_row, eq-eqb slot.level 0 leaf) refl

pub no_pairs_outside : (slot : SlotValue) → is_in_row slot.stage ≡ false → leaf_pairs slot ≡ []
no_pairs_outside slot outside = rw outside refl

-- a slot with a pair is in a row, and a leaf
pub share_of_leaf : (slot : SlotValue) (key value : ℕ) → at key (leaf_pairs slot) ≡ Some value → (is_in_row slot.stage ≡ true) × (slot.level ≡ 0) × (at key (pairs_in slot) ≡ Some value)
share_of_leaf slot key value found = ⊎_elim
    (λ (leaf : is_leaf_in_row slot ≡ true).
    let parts = and_parts (is_in_row slot.stage) (eqb slot.level 0) leaf in
    (parts.0, eqb-true _ _ parts.1, sym (ap (λ b. at key (cond b (pairs_in slot) [])) leaf) ∙ found))
    (λ (other : is_leaf_in_row slot ≡ false). absurd (cc (ap (λ b. at key (cond b (pairs_in slot) [])) other, found)))
    (cases_Bool (is_leaf_in_row slot))

-- the range of a page in a row spans each of its pairs
pub pair_is_spanned : (slots : List SlotValue) (page key value : ℕ) → Pages slots → at key (leaf_pairs (slot_in slots page)) ≡ Some value → (is_in_row (slot_in slots page).stage ≡ true) × ((slot_in slots page).level ≡ 0) × Spans (outlines slots page) key
pair_is_spanned slots page key value pages found =
    let leaf = share_of_leaf (slot_in slots page) key value found in
    let own = pages page leaf.0 in
    let chain = own.0 in
    let is = own.1 in
    let inside = found_within (fences chain).low (end_of (fences chain).high) key value (pairs chain) (pairs_rise chain is.sound.built) (ap (at key) (sym (pairs_are (slot_in slots page) chain is)) ∙ leaf.2) in
    (leaf.0, leaf.1, (omega (arith, inside.0, low_is (slot_in slots page) chain is), omega (arith, inside.1, ap end_of (high_is (slot_in slots page) chain is))))

-- a pair of the map that stands in another slot
abbrev pub Elsewhere : List SlotValue → ℕ → ℕ → ℕ → Type 0
Elsewhere slots page key value = (x : ℕ) × (x ≢ page) × (at key (leaf_pairs (slot_in slots x)) ≡ Some value)

-- a pair of the map stands in a slot or elsewhere
pub maps_cases : (slots : List SlotValue) (page key value : ℕ) → Maps slots key value → (at key (leaf_pairs (slot_in slots page)) ≡ Some value) ⊎ Elsewhere slots page key value
maps_cases slots page key value maps = ⊎_elim
    (λ (same : maps.0 ≡ page). inl (ap (λ x. at key (leaf_pairs (slot_in slots x))) (sym same) ∙ maps.1))
    (λ (other : maps.0 ≢ page). inr (maps.0, other, maps.1))
    (cases_eq maps.0 page)

-- another slot has the share that it had
pub share_kept : (slots : List SlotValue) (page : ℕ) (new : SlotValue) (key x : ℕ) → x ≢ page → at key (leaf_pairs (slot_in (set slots page new) x)) ≡ at key (leaf_pairs (slot_in slots x))
share_kept slots page new key x other = ap (λ s. at key (leaf_pairs s)) (slot_kept slots page new x other)

-- after a slot was written the map has what it has, and what stood elsewhere
pub maps-set : (slots : List SlotValue) (page : ℕ) (new : SlotValue) (key value : ℕ) → page < length slots → Maps (set slots page new) key value ↔ ((at key (leaf_pairs new) ≡ Some value) ⊎ Elsewhere slots page key value)
maps-set slots page new key value inside = (to, back)
  where
    here : (at key (leaf_pairs (slot_in (set slots page new) page))) ≡ at key (leaf_pairs new)
    here = ap (λ s. at key (leaf_pairs s)) (slot_written slots page new inside)

    to : Maps (set slots page new) key value → (at key (leaf_pairs new) ≡ Some value) ⊎ Elsewhere slots page key value
    to maps = ⊎_elim
        (λ (found : at key (leaf_pairs (slot_in (set slots page new) page)) ≡ Some value). inl (sym here ∙ found))
        (λ (off : Elsewhere (set slots page new) page key value). inr (off.0, off.1, sym (share_kept slots page new key off.0 off.1) ∙ off.2))
        (maps_cases (set slots page new) page key value maps)

    back : (at key (leaf_pairs new) ≡ Some value) ⊎ Elsewhere slots page key value → Maps (set slots page new) key value
    back either = ⊎_elim
        (λ (found : at key (leaf_pairs new) ≡ Some value). (page, here ∙ found))
        (λ (off : Elsewhere slots page key value). (off.0, share_kept slots page new key off.0 off.1 ∙ off.2))
        either

-- a key of a leaf's range stands in no other slot
pub only_here : (slots : List SlotValue) (root page key value : ℕ) → Rows key_count (outlines slots) root → Pages slots → is_in_row (slot_in slots page).stage ≡ true → (slot_in slots page).level ≡ 0 → Spans (outlines slots page) key → Elsewhere slots page key value → ⊥
only_here slots root page key value rows pages in_row leaf spans off =
    let there = pair_is_spanned slots off.0 key value pages off.2 in
    off.1 (rows.apart off.0 page key there.0 in_row (there.1 ∙ sym leaf) there.2 spans)

-- a slot that is written changes the number of pairs by its own
pub count-set : (slots : List SlotValue) (page : ℕ) (new : SlotValue) → page < length slots → pair_count (set slots page new) + length (leaf_pairs (slot_in slots page)) ≡ pair_count slots + length (leaf_pairs new)
count-set slots page new inside = sum_by-set (λ s. length (leaf_pairs s)) slots page new (free_slot 0) inside

-- the map and the number of its pairs are as they were
pub record KeepsPairs (old new : List SlotValue) : Type 0 where
  pub map : SameMap old new
  pub count : pair_count new ≡ pair_count old

-- what keeps the pairs and then keeps them keeps them
pub keeps_pairs_then : (a b c : List SlotValue) → KeepsPairs a b → KeepsPairs b c → KeepsPairs a c
keeps_pairs_then a b c first second = record {
  map = λ key value. ((λ maps. (first.map key value).0 ((second.map key value).0 maps)), (λ maps. (second.map key value).1 ((first.map key value).1 maps)));
  count = second.count ∙ first.count;
}

-- the slot has the share that it had
pub same_share : (slots : List SlotValue) (page : ℕ) (new : SlotValue) → page < length slots → leaf_pairs new ≡ leaf_pairs (slot_in slots page) → KeepsPairs slots (set slots page new)
same_share slots page new inside same = record {
  map = λ key value. (
    (λ maps. ⊎_elim
        (λ (found : at key (leaf_pairs new) ≡ Some value). (page, ap (at key) (sym same) ∙ found))
        (λ (off : Elsewhere slots page key value). (off.0, off.2))
        ((maps-set slots page new key value inside).0 maps)),
    (λ maps. (maps-set slots page new key value inside).1 (⊎_elim
        (λ (found : at key (leaf_pairs (slot_in slots page)) ≡ Some value). inl (ap (at key) same ∙ found))
        (λ (off : Elsewhere slots page key value). inr off)
        (maps_cases slots page key value maps))),
  );
  count = omega (arith, count-set slots page new inside, ap length same);
}

-- two slots together have the shares that they had
module _ (slots : List SlotValue) (p q : ℕ) (a b : SlotValue) (p_inside : p < length slots) (q_inside : q < length slots) (apart : q ≢ p)
    (same_keys : (key value : ℕ) → ((at key (leaf_pairs a) ≡ Some value) ⊎ (at key (leaf_pairs b) ≡ Some value)) ↔ ((at key (leaf_pairs (slot_in slots p)) ≡ Some value) ⊎ (at key (leaf_pairs (slot_in slots q)) ≡ Some value)))
    (same_length : length (leaf_pairs a) + length (leaf_pairs b) ≡ length (leaf_pairs (slot_in slots p)) + length (leaf_pairs (slot_in slots q))) where
  abbrev first : List SlotValue
  first = set slots p a

  q_then : q < length first
  q_then = omega (arith, q_inside, length-set slots p a)

  q_is : slot_in first q ≡ slot_in slots q
  q_is = slot_kept slots p a q apart

  p_is : slot_in first p ≡ a
  p_is = slot_written slots p a p_inside

  -- what the new slots have, the old map has
  was_mapped : (key value : ℕ) → (at key (leaf_pairs a) ≡ Some value) ⊎ (at key (leaf_pairs b) ≡ Some value) → Maps slots key value
  was_mapped key value new = ⊎_elim
      (λ (found : at key (leaf_pairs (slot_in slots p)) ≡ Some value). (p, found))
      (λ (found : at key (leaf_pairs (slot_in slots q)) ≡ Some value). (q, found))
      ((same_keys key value).0 new)

  -- what the old slots had, the new map has
  is_mapped : (key value : ℕ) → (at key (leaf_pairs (slot_in slots p)) ≡ Some value) ⊎ (at key (leaf_pairs (slot_in slots q)) ≡ Some value) → Maps (set first q b) key value
  is_mapped key value old = (maps-set first q b key value q_then).1 (⊎_elim
      (λ (found : at key (leaf_pairs a) ≡ Some value). inr (p, (λ same. apart (sym same)), ap (λ s. at key (leaf_pairs s)) p_is ∙ found))
      (λ (found : at key (leaf_pairs b) ≡ Some value). inl found)
      ((same_keys key value).1 old))

  was_there : (key value : ℕ) → Maps (set first q b) key value → Maps slots key value
  was_there key value maps = ⊎_elim
      (λ (found : at key (leaf_pairs b) ≡ Some value). was_mapped key value (inr found))
      (λ (off : Elsewhere first q key value). ⊎_elim
      (λ (found : at key (leaf_pairs a) ≡ Some value). was_mapped key value (inl found))
      (λ (old : Elsewhere slots p key value). (old.0, old.2))
      ((maps-set slots p a key value p_inside).0 (off.0, off.2)))
      ((maps-set first q b key value q_then).0 maps)

  is_there : (key value : ℕ) → Maps slots key value → Maps (set first q b) key value
  is_there key value maps = ⊎_elim
      (λ (found : at key (leaf_pairs (slot_in slots p)) ≡ Some value). is_mapped key value (inl found))
      (λ (off : Elsewhere slots p key value). ⊎_elim
      (λ (same : off.0 ≡ q). is_mapped key value (inr (ap (λ x. at key (leaf_pairs (slot_in slots x))) (sym same) ∙ off.2)))
      (λ (other : off.0 ≢ q). (maps-set first q b key value q_then).1 (inr (off.0, other, share_kept slots p a key off.0 off.1 ∙ off.2)))
      (cases_eq off.0 q))
      (maps_cases slots p key value maps)

  -- so the map is as it was
  pub shares_moved : KeepsPairs slots (set (set slots p a) q b)
  shares_moved = record {
    map = λ key value. (was_there key value, is_there key value);
    count = omega (arith, same_length, count-set slots p a p_inside, count-set first q b q_then, ap (λ s. length (leaf_pairs s)) q_is);
  }

-- the book counts the pairs that are there
pub booked_with : (table new : TableValue) → new.book ≡ table.book → KeepsPairs table.slots new.slots → Booked table → Booked new
booked_with table new same keeps booked = omega (arith, booked, keeps.count, ap (λ (b : Book). b.inserted) same, ap (λ (b : Book). b.removed) same)
