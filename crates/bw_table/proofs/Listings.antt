-- The first pairs of the map from a key on, listed page by page along the leaf row.
use Rattle.std.proofs.Common.{◌≡◌, ℕ, ◌<◌, ◌≤◌, true, List, [], ◌∷◌, ◌++◌, length, take, Option, Some, None, refl, sym, ◌∙◌, ap, subst, arith, append_assoc, inl, inr, length-take, length-append}
use Rattle.std.specs.Prelude.{min}
use Rattle.std.proofs.lemmas.Bool.Decides.{nat_tests}
use Rattle.std.proofs.lemmas.List.{take_all, take-append-le}
use Rattle.std.proofs.lemmas.List.Elements.{filter-append}
use Rattle.bw_keys.specs.declared.page.Pid.{Pid}
use Rattle.bw_keys.specs.Ranges.{key_count}
use Rattle.bw_delta.specs.Entries.{from}
use Rattle.bw_chain.proofs.Firsts.{from_past}
use Rattle.bw_step.specs.Stages.{is_in_row}
use Rattle.bw_law.specs.Laws.{IsLeafOf, IsTheMap}
use Rattle.bw_law.specs.Rows.{Outline}
use Rattle.bw_law.specs.Slots.{SlotValue, slot_in, pairs_in}
use Rattle.bw_law.specs.Walks.{Linked, IsRow, IsRowOf, IsAmong, Partitions}
use Rattle.bw_law.specs.Tables.{TableValue, slot_at, outlines, Lawful, leaf_pairs, joined_pairs, pair_count}
use Rattle.bw_law.proofs.Count.{joined_count}
use Rattle.bw_law.proofs.Joined.{joined, EachRises, joined_rise}
use Rattle.bw_law.proofs.MapAndTerms.{map_law, leaf_pairs_rise}
use Rattle.bw_law.proofs.RowList.{row_of}
use Rattle.bw_table.proofs.RowWalk.{IsListedBefore, at_next, listing_goes_on, whole_is_listed, joined_pairs-one, joined_pairs-append}

-- Lists.

pub short_take_is_all : {X : Type 0} (n : ℕ) (xs : List X) → length (take n xs) < n → take n xs ≡ xs
short_take_is_all n xs short = take_all n xs (omega (arith, length-take n xs))

pub from-append : {X : Type 0} (low : ℕ) (xs ys : List (ℕ × X)) → from low (xs ++ ys) ≡ from low xs ++ from low ys
from-append low xs ys = filter-append _ xs ys

pub length-from : {X : Type 0} (low : ℕ) (xs : List (ℕ × X)) → length (from low xs) ≤ length xs
length-from low [] = omega arith
length-from low (x ∷ xs) = grind (arith, nat_tests, length-from low xs)

-- The leaf row.

abbrev pub pairs_from : List SlotValue → ℕ → List ℕ → List (ℕ × ℕ)
pairs_from slots low row = from low (joined_pairs slots row)

-- the first pairs of the map from the key on, and no more than the limit
pub record AreFirstFrom (table : TableValue) (low limit : ℕ) (listed : List (ℕ × ℕ)) : Type 0 where
  pub pairs : List (ℕ × ℕ)
  pub map : IsTheMap table pairs
  pub first : listed ≡ take limit (from low pairs)

-- the pages before the next have these pairs, and the list is the first of them
pub record IsListedUpTo (table : TableValue) (low limit : ℕ) (next : Option Pid) (list : List (ℕ × ℕ)) : Type 0 where
  pub listed : List (ℕ × ℕ)
  pub so_far : IsListedBefore table (pairs_from table.slots low) next listed
  pub is : list ≡ take limit listed

linked_row : (at : ℕ → Outline) (level : ℕ) (row : List ℕ) → IsRow at level row → Linked at row
linked_row at level [] is = is
linked_row at level (page ∷ row) is = is.3

linked_from : (at : ℕ → Outline) (before : List ℕ) (page : ℕ) (tail : List ℕ) → Linked at (before ++ page ∷ tail) → Linked at (page ∷ tail)
linked_from at [] page tail linked = linked
linked_from at (p ∷ []) page tail linked = linked.1
linked_from at (p ∷ q ∷ before) page tail linked = linked_from at (q ∷ before) page tail linked.1

parts_before : (at : ℕ → Outline) (start top : ℕ) (before : List ℕ) (page : ℕ) (tail : List ℕ) → Partitions at start top (before ++ page ∷ tail) → Partitions at start (at page).low before
parts_before at start top [] page tail parts = sym parts.0
parts_before at start top (p ∷ before) page tail parts = (parts.0, parts.1, parts_before at (at p).high top before page tail parts.2)

among_before : (before rest : List ℕ) (page : ℕ) → IsAmong before page → IsAmong (before ++ rest) page
among_before [] rest page among = absurd among
among_before (p ∷ before) rest page (inl is) = inl is
among_before (p ∷ before) rest page (inr among) = inr (among_before before rest page among)

-- where a page stands in a list
place_of : (row : List ℕ) (page : ℕ) → IsAmong row page → (before : List ℕ) × (tail : List ℕ) × (row ≡ before ++ page ∷ tail)
place_of [] page among = absurd among
place_of (p ∷ row) page (inl is) = ([], row, ap (λ (q : ℕ). q ∷ row) (sym is))
place_of (p ∷ row) page (inr among) =
    let place = place_of row page among in
    (p ∷ place.0, place.1, ap (λ (l : List ℕ). p ∷ l) place.2)

pub joined_shares : (slots : List SlotValue) (row : List ℕ) → joined_pairs slots row ≡ joined (λ page. leaf_pairs (slot_in slots page)) row
joined_shares slots [] = refl
joined_shares slots (page ∷ row) = ap (λ (es : List (ℕ × ℕ)). leaf_pairs (slot_in slots page) ++ es) (joined_shares slots row)

pub pairs_from-append : (slots : List SlotValue) (low : ℕ) (xs ys : List ℕ) → pairs_from slots low (xs ++ ys) ≡ pairs_from slots low xs ++ pairs_from slots low ys
pairs_from-append slots low xs ys = ap (from low) (joined_pairs-append slots xs ys) ∙ from-append low (joined_pairs slots xs) (joined_pairs slots ys)

module _ (table : TableValue) (law : Lawful table) (low limit : ℕ) where
  -- the pages before the leaf of a key have no pairs from the key on
  none_before : (before : List ℕ) (page : ℕ) (tail : List ℕ) → IsRowOf (outlines table.slots) key_count 0 (before ++ page ∷ tail) → (slot_at table page).low ≤ low → pairs_from table.slots low before ≡ []
  none_before before page tail is upto =
      let each : EachRises (outlines table.slots) (λ p. leaf_pairs (slot_in table.slots p)) before = λ p among. let there = (is.members p).0 (among_before before (page ∷ tail) p among) in leaf_pairs_rise table law p there.0 there.1 in
      let rise = joined_rise (outlines table.slots) (λ p. leaf_pairs (slot_in table.slots p)) 0 (slot_at table page).low before (parts_before (outlines table.slots) 0 key_count before page tail is.partitions) each in
      ap (from low) (joined_shares table.slots before) ∙ from_past 0 (slot_at table page).low low (joined (λ p. leaf_pairs (slot_in table.slots p)) before) rise.1 upto

  pub row_begins : (first : Pid) (list : List (ℕ × ℕ)) → IsLeafOf table low first.0 → list ≡ [] → IsListedUpTo table low limit (Some first) list
  row_begins first list leaf none =
      let row = row_of key_count (outlines table.slots) table.root law.rows 0 (omega arith) in
      let place = place_of row.0 first.0 ((row.1.members first.0).1 (leaf.in_row, leaf.is_leaf)) in
      let is : IsRowOf (outlines table.slots) key_count 0 (place.0 ++ first.0 ∷ place.1) = subst (IsRowOf (outlines table.slots) key_count 0) place.2 row.1 in
      record {
        listed = [];
        so_far = record {
          lawful = law;
          before = place.0;
          rest = first.0 ∷ place.1;
          is_row = is;
          onward = record { in_row = leaf.in_row; is_leaf = leaf.is_leaf; tail = place.1; is = refl; linked = linked_from (outlines table.slots) place.0 first.0 place.1 (linked_row (outlines table.slots) 0 (place.0 ++ first.0 ∷ place.1) is.is_row) };
          listed_is = sym (none_before place.0 first.0 place.1 is leaf.spans.0);
        };
        is = none ∙ sym (take_all limit [] (omega arith));
      }

  module _ (next : Option Pid) (list : List (ℕ × ℕ)) (up_to : IsListedUpTo table low limit next list) where
    here : (page : Pid) → next ≡ Some page → is_in_row (slot_at table page.0).stage ≡ true
    here page is = (at_next table law (pairs_from table.slots low) next page up_to.listed up_to.so_far is).in_row

    pub next_is_in_row : (page : Pid) → next ≡ Some page → is_in_row (slot_at table page.0).stage ≡ true
    next_is_in_row page is = here page is

    pub of_page : (page : Pid) (slot : SlotValue) → next ≡ Some page → slot ≡ slot_at table page.0 → from low (pairs_in slot) ≡ pairs_from table.slots low (page.0 ∷ [])
    of_page page slot is same =
        let there = at_next table law (pairs_from table.slots low) next page up_to.listed up_to.so_far is in
        ap (λ (s : SlotValue). from low (pairs_in s)) same ∙ ap (from low) (sym (joined_pairs-one table.slots page.0 there.in_row there.is_leaf))

    -- the list has room for the page's pairs
    pub page_has_room : (page : Pid) (slot : SlotValue) (capacity : ℕ) → next ≡ Some page → slot ≡ slot_at table page.0 → length list < limit → min (pair_count table.slots) limit ≤ capacity
        → length (take limit (list ++ from low (pairs_in slot))) ≤ capacity
    page_has_room page slot capacity is same more room =
        let so_far = up_to.so_far in
        let there = at_next table law (pairs_from table.slots low) next page up_to.listed so_far is in
        let all : list ≡ up_to.listed = up_to.is ∙ short_take_is_all limit up_to.listed (omega (arith, more, ap length up_to.is)) in
        let row : so_far.before ++ so_far.rest ≡ (so_far.before ++ page.0 ∷ []) ++ there.tail = ap (λ (l : List ℕ). so_far.before ++ l) there.is ∙ sym (append_assoc so_far.before (page.0 ∷ []) there.tail) in
        let listed : list ++ from low (pairs_in slot) ≡ pairs_from table.slots low (so_far.before ++ page.0 ∷ []) =
        ap (λ (l : List (ℕ × ℕ)). l ++ from low (pairs_in slot)) (all ∙ so_far.listed_is) ∙ ap (λ (l : List (ℕ × ℕ)). pairs_from table.slots low so_far.before ++ l) (of_page page slot is same)
        ∙ sym (pairs_from-append table.slots low so_far.before (page.0 ∷ [])) in
        let whole = joined_count table.slots (so_far.before ++ so_far.rest) so_far.is_row in
        omega (
          arith,
          room,
          length-take limit (list ++ from low (pairs_in slot)),
          ap length listed,
          length-from low (joined_pairs table.slots (so_far.before ++ page.0 ∷ [])),
          whole,
          ap (λ (l : List ℕ). length (joined_pairs table.slots l)) row,
          ap length (joined_pairs-append table.slots (so_far.before ++ page.0 ∷ []) there.tail),
          length-append (joined_pairs table.slots (so_far.before ++ page.0 ∷ [])) (joined_pairs table.slots there.tail),
        )

    pub row_goes_on : (page : Pid) (slot : SlotValue) (right : Option Pid) (longer : List (ℕ × ℕ)) → next ≡ Some page → slot ≡ slot_at table page.0 → right ≡ slot.right → length list < limit
        → longer ≡ take limit (list ++ from low (pairs_in slot)) → IsListedUpTo table low limit right longer
    row_goes_on page slot right longer is same right_is more longer_is =
        let all : list ≡ up_to.listed = up_to.is ∙ short_take_is_all limit up_to.listed (omega (arith, more, ap length up_to.is)) in record {
          listed = up_to.listed ++ pairs_from table.slots low (page.0 ∷ []);
          so_far = listing_goes_on table law (pairs_from table.slots low) (pairs_from-append table.slots low) next right page up_to.listed (up_to.listed ++ pairs_from table.slots low (page.0 ∷ [])) up_to.so_far is
              (right_is ∙ ap (λ (s : SlotValue). s.right) same) refl;
          is = longer_is ∙ ap (λ (l : List (ℕ × ℕ)). take limit (l ++ from low (pairs_in slot))) all ∙ ap (λ (l : List (ℕ × ℕ)). take limit (up_to.listed ++ l)) (of_page page slot is same);
        }

    -- the limit is reached, or no page is left
    pub listing_is_full : limit ≤ length list → AreFirstFrom table low limit list
    listing_is_full full =
        let so_far = up_to.so_far in
        let row = so_far.before ++ so_far.rest in
        let many : limit ≤ length up_to.listed = omega (arith, full, ap length up_to.is, length-take limit up_to.listed) in
        record {
          pairs = joined_pairs table.slots row;
          map = map_law table law row so_far.is_row;
          first =
              up_to.is ∙ sym (take-append-le limit up_to.listed (pairs_from table.slots low so_far.rest) many)
              ∙ ap (λ (l : List (ℕ × ℕ)). take limit (l ++ pairs_from table.slots low so_far.rest)) so_far.listed_is
              ∙ ap (take limit) (sym (pairs_from-append table.slots low so_far.before so_far.rest));
        }

    pub listing_is_whole : next ≡ None → AreFirstFrom table low limit list
    listing_is_whole none =
        let so_far = up_to.so_far in
        let row_is = whole_is_listed table law (pairs_from table.slots low) next up_to.listed so_far none in
        record {
          pairs = joined_pairs table.slots so_far.before;
          map = map_law table law so_far.before row_is;
          first = up_to.is ∙ ap (take limit) so_far.listed_is;
        }
