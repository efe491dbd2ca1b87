-- The first pairs of a range: those from a key on that are cut at the range's end.
use Rattle.std.proofs.Common.{◌≡◌, ℕ, zero, suc, ◌+◌, ◌<◌, ◌≤◌, true, List, [], ◌∷◌, ◌++◌, length, take, Option, Some, None, refl, sym, ◌∙◌, ap, subst, arith, append_assoc, append-nil, inl, inr}
use Rattle.std.proofs.lemmas.Bool.Decides.{nat_tests, leb_tells}
use Rattle.std.proofs.lemmas.List.Elements.{filter-append}
use Rattle.bw_keys.specs.declared.page.Pid.{Pid}
use Rattle.bw_keys.specs.Ranges.{key_count, end_of}
use Rattle.bw_delta.specs.Entries.{from, below, rises}
use Rattle.bw_delta.proofs.Rises.{rises-from, rises-lower}
use Rattle.bw_chain.proofs.Lasts.{below_low}
use Rattle.bw_law.specs.Laws.{IsTheMap}
use Rattle.bw_law.specs.Rows.{Outline}
use Rattle.bw_law.specs.Slots.{SlotValue, slot_in, pairs_in}
use Rattle.bw_law.specs.Walks.{IsRowOf, IsAmong, Partitions}
use Rattle.bw_law.specs.Tables.{TableValue, slot_at, outlines, Lawful, leaf_pairs, joined_pairs}
use Rattle.bw_law.proofs.Joined.{joined, EachRises, joined_rise}
use Rattle.bw_law.proofs.MapAndTerms.{map_law, leaf_pairs_rise}
use Rattle.bw_table.specs.Gets.{IsListing, HasListing}
use Rattle.bw_table.proofs.Listings.{IsListedUpTo, AreFirstFrom, pairs_from, pairs_from-append, joined_shares, short_take_is_all, of_page}
use Rattle.bw_table.proofs.RowWalk.{at_next}

-- Lists.

module _ {X : Type 0} where
  pub rises-take : (n low end : ℕ) (es : List (ℕ × X)) → rises low end es ≡ true → rises low end (take n es) ≡ true
  rises-take zero low end es h = refl
  rises-take (suc n) low end [] h = refl
  rises-take (suc n) low end (e ∷ es) h = grind (arith, nat_tests, rises-take n (e.0 + 1) end es)

  -- the first of those below a bound
  pub below-take : (n low end bound : ℕ) (es : List (ℕ × X)) → rises low end es ≡ true → below bound (take n es) ≡ take n (below bound es)
  below-take zero low end bound es h = refl
  below-take (suc n) low end bound [] h = refl
  below-take (suc n) low end bound (e ∷ es) h =
      let rest : rises (e.0 + 1) end es ≡ true = grind (arith, nat_tests) in
      elim (leb_tells bound e.0) [
        | inl past ↦ grind (arith, nat_tests, past.1, below_low (e.0 + 1) end bound es, below_low (e.0 + 1) end bound (take n es), rises-take n (e.0 + 1) end es)
        | inr first ↦ grind (arith, nat_tests, first.1, below-take n (e.0 + 1) end bound es rest)
      ]

  rises-front : (low end : ℕ) (xs ys : List (ℕ × X)) → rises low end (xs ++ ys) ≡ true → rises low end xs ≡ true
  rises-front low end [] ys h = refl
  rises-front low end (x ∷ xs) ys h = grind (arith, nat_tests, rises-front (x.0 + 1) end xs ys)

  -- nothing that rises from the bound on lies below it
  below-from_past : (start end low bound : ℕ) (es : List (ℕ × X)) → rises start end es ≡ true → bound ≤ start → below bound (from low es) ≡ []
  below-from_past start end low bound [] h past = refl
  below-from_past start end low bound (e ∷ es) h past = grind (arith, nat_tests, below-from_past (e.0 + 1) end low bound es)

  -- what lies at the bound or past it adds nothing
  below-front : (low end bound limit : ℕ) (xs ys : List (ℕ × X)) → rises low end (xs ++ ys) ≡ true → below bound ys ≡ [] → below bound (take limit xs) ≡ take limit (below bound (xs ++ ys))
  below-front low end bound limit xs ys rise none =
      below-take limit low end bound xs (rises-front low end xs ys rise)
      ∙ ap (take limit) (sym (filter-append _ xs ys ∙ ap (λ (l : List (ℕ × X)). below bound xs ++ l) none ∙ append-nil (below bound xs)))

-- The leaf row.

parts_behind : (at : ℕ → Outline) (start top : ℕ) (before : List ℕ) (page : ℕ) (tail : List ℕ) → Partitions at start top (before ++ page ∷ tail) → Partitions at (at page).high top tail
parts_behind at start top [] page tail parts = parts.2
parts_behind at start top (p ∷ before) page tail parts = parts_behind at (at p).high top before page tail parts.2

among_behind : (before tail : List ℕ) (page q : ℕ) → IsAmong tail q → IsAmong (before ++ page ∷ tail) q
among_behind [] tail page q among = inr among
among_behind (p ∷ before) tail page q among = inr (among_behind before tail page q among)

module _ (table : TableValue) (law : Lawful table) (low end limit : ℕ) where
  -- the first pairs from the low on, some of which may lie at the end or past it
  pub first_has_listing : (list : List (ℕ × ℕ)) → AreFirstFrom table low limit list → HasListing table low end limit list
  first_has_listing list are =
      let rise = rises-from key_count 0 low are.pairs are.map.rise in record {
        rise = subst (λ (l : List (ℕ × ℕ)). rises 0 key_count l ≡ true) (sym are.first) (rises-lower key_count 0 low (take limit (from low are.pairs)) (omega arith) (rises-take limit low key_count (from low are.pairs) rise));
        listing = record { pairs = are.pairs; map = are.map; first = ap (below end) are.first ∙ below-take limit low key_count end (from low are.pairs) rise };
      }

  -- those of the pages up to one that ends there or past it
  pub page_ends_listing : (next : Option Pid) (list : List (ℕ × ℕ)) (up_to : IsListedUpTo table low limit next list) (page : Pid) (slot : SlotValue) (longer : List (ℕ × ℕ)) → next ≡ Some page → slot ≡ slot_at table page.0
      → length list < limit → longer ≡ take limit (list ++ from low (pairs_in slot)) → end ≤ end_of slot.high → HasListing table low end limit longer
  page_ends_listing next list up_to page slot longer is same more longer_is past =
      let slots = table.slots in
      let so_far = up_to.so_far in
      let before = so_far.before in
      let there = at_next table law (pairs_from slots low) next page up_to.listed so_far is in
      let tail = there.tail in
      let row = before ++ page.0 ∷ tail in
      let is_row : IsRowOf (outlines slots) key_count 0 row = subst (IsRowOf (outlines slots) key_count 0) (ap (λ (l : List ℕ). before ++ l) there.is) so_far.is_row in
      let map = map_law table law row is_row in
      let all : list ≡ up_to.listed = up_to.is ∙ short_take_is_all limit up_to.listed (omega (arith, more, ap length up_to.is)) in
      let listed : list ++ from low (pairs_in slot) ≡ pairs_from slots low (before ++ page.0 ∷ []) =
      ap (λ (l : List (ℕ × ℕ)). l ++ from low (pairs_in slot)) (all ∙ so_far.listed_is) ∙ ap (λ (l : List (ℕ × ℕ)). pairs_from slots low before ++ l) (of_page table law low limit next list up_to page slot is same)
      ∙ sym (pairs_from-append slots low before (page.0 ∷ [])) in
      let whole : (list ++ from low (pairs_in slot)) ++ pairs_from slots low tail ≡ from low (joined_pairs slots row) =
      ap (λ (l : List (ℕ × ℕ)). l ++ pairs_from slots low tail) listed ∙ sym (pairs_from-append slots low (before ++ page.0 ∷ []) tail) ∙ ap (pairs_from slots low) (append_assoc before (page.0 ∷ []) tail) in
      let rise : rises low key_count ((list ++ from low (pairs_in slot)) ++ pairs_from slots low tail) ≡ true =
      subst (λ (l : List (ℕ × ℕ)). rises low key_count l ≡ true) (sym whole) (rises-from key_count 0 low (joined_pairs slots row) map.rise) in
      let each : EachRises (outlines slots) (λ p. leaf_pairs (slot_in slots p)) tail = λ p among. let in_row = (is_row.members p).0 (among_behind before tail page.0 p among) in leaf_pairs_rise table law p in_row.0 in_row.1 in
      let behind = joined_rise (outlines slots) (λ p. leaf_pairs (slot_in slots p)) (end_of (slot_at table page.0).high) key_count tail (parts_behind (outlines slots) 0 key_count before page.0 tail is_row.partitions) each in
      let later : end ≤ end_of (slot_at table page.0).high = subst (λ (s : SlotValue). end ≤ end_of s.high) same past in
      let none : below end (pairs_from slots low tail) ≡ [] =
      ap (λ (l : List (ℕ × ℕ)). below end (from low l)) (joined_shares slots tail) ∙ below-from_past (end_of (slot_at table page.0).high) key_count low end (joined (λ p. leaf_pairs (slot_in slots p)) tail) behind.1 later in
      record {
        rise =
            subst (λ (l : List (ℕ × ℕ)). rises 0 key_count l ≡ true) (sym longer_is)
            (rises-lower key_count 0 low (take limit (list ++ from low (pairs_in slot))) (omega arith) (rises-take limit low key_count (list ++ from low (pairs_in slot)) (rises-front low key_count (list ++ from low (pairs_in slot)) (pairs_from slots low tail) rise)));
        listing = record {
          pairs = joined_pairs slots row;
          map = map;
          first =
              ap (below end) longer_is ∙ below-front low key_count end limit (list ++ from low (pairs_in slot)) (pairs_from slots low tail) rise none
              ∙ ap (λ (l : List (ℕ × ℕ)). take limit (below end l)) whole;
        };
      }
