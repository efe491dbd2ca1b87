-- A table with more pages keeps the law.
use Rattle.std.proofs.Common.{◌≡◌, ◌⊎◌, ℕ, zero, suc, ◌+◌, ◌-◌, ◌<◌, ◌≤◌, ◌^◌, List, [], ◌∷◌, ◌++◌, length, refl, sym, ◌∙◌, ap, subst, inl, inr, ⊎_elim, arith, length-append}
use Rattle.std.proofs.Math.Path.{fun_ext}
use Rattle.std.specs.Prelude.{replicate}
use Rattle.std.proofs.lemmas.List.{length-replicate, replicate-append-replicate, get_or_past, get_or_append_left}
use Rattle.std.proofs.lemmas.List.Sums.{sum_by-cons}
use Rattle.bw_keys.specs.Ranges.{key_count}
use Rattle.bw_delta.specs.Entries.{at}
use Rattle.bw_step.specs.declared.view.Stage.TheVariants.{Free}
use Rattle.bw_law.specs.declared.pages.TheConstants.{MAX_PAGES}
use Rattle.bw_law.specs.Slots.{SlotValue, free_slot, slot_in}
use Rattle.bw_law.specs.Rows.{Outline, Rows}
use Rattle.bw_law.specs.Walks.{IsAmong, RepeatsNone, IsRowOf, IsWalkFrom}
use Rattle.bw_law.specs.Tables.{TableValue, outlines, IsEmptied, FreeList, Lawful, Booked, leaf_pairs, joined_pairs, pair_count, first_slot, ids_down}
use Rattle.bw_law.specs.MorePages.{ids_from, more_pages, with_more_pages, KeptWithMorePages, MorePagesLaw, SameAsNewLaw}
use Rattle.bw_law.proofs.Slots.{HasPage}

-- what holds of each slot, and of a free one, holds of each slot with more of them
each_slot_then : (P : SlotValue → Type 0) (slots : List SlotValue) (more version : ℕ) → P (free_slot version) → ((x : ℕ) → P (slot_in slots x)) → (x : ℕ) → P (slot_in (slots ++ replicate more (free_slot version)) x)
each_slot_then P [] zero version fresh before x = before x
each_slot_then P [] (suc more) version fresh before zero = fresh
each_slot_then P [] (suc more) version fresh before (suc x) = each_slot_then P [] more version fresh before x
each_slot_then P (slot ∷ slots) more version fresh before zero = before zero
each_slot_then P (slot ∷ slots) more version fresh before (suc x) = each_slot_then P slots more version fresh (λ y. before (suc y)) x

-- what a free slot shows doesn't depend on its version: each slot shows the same
same_outline : (slots : List SlotValue) (more version x : ℕ) → outlines (slots ++ replicate more (free_slot version)) x ≡ outlines slots x
same_outline [] zero version x = refl
same_outline [] (suc more) version zero = refl
same_outline [] (suc more) version (suc x) = same_outline [] more version x
same_outline (slot ∷ slots) more version zero = refl
same_outline (slot ∷ slots) more version (suc x) = same_outline slots more version x

same_outlines : (slots : List SlotValue) (more version : ℕ) → outlines (slots ++ replicate more (free_slot version)) ≡ outlines slots
same_outlines slots more version = fun_ext (same_outline slots more version)

-- and has the same share of the map
same_share : (slots : List SlotValue) (more version x : ℕ) → leaf_pairs (slot_in (slots ++ replicate more (free_slot version)) x) ≡ leaf_pairs (slot_in slots x)
same_share [] zero version x = refl
same_share [] (suc more) version zero = refl
same_share [] (suc more) version (suc x) = same_share [] more version x
same_share (slot ∷ slots) more version zero = refl
same_share (slot ∷ slots) more version (suc x) = same_share slots more version x

same_pairs : (slots : List SlotValue) (more version : ℕ) (row : List ℕ) → joined_pairs (slots ++ replicate more (free_slot version)) row ≡ joined_pairs slots row
same_pairs slots more version [] = refl
same_pairs slots more version (page ∷ row) = λ i. same_share slots more version page i ++ same_pairs slots more version row i

same_count : (slots : List SlotValue) (more version : ℕ) → pair_count (slots ++ replicate more (free_slot version)) ≡ pair_count slots
same_count [] zero version = refl
same_count [] (suc more) version = omega (arith, same_count [] more version, sum_by-cons (λ slot. length (leaf_pairs slot)) (free_slot version) (replicate more (free_slot version)))
same_count (slot ∷ slots) more version =
    let share : SlotValue → ℕ = λ slot. length (leaf_pairs slot) in
    omega (arith, same_count slots more version, sum_by-cons share slot slots, sum_by-cons share slot (slots ++ replicate more (free_slot version)))

-- the ids

length-ids_from : (first n : ℕ) → length (ids_from first n) ≡ n
length-ids_from first zero = refl
length-ids_from first (suc n) = omega (arith, length-ids_from first n)

among_from : (first n x : ℕ) → IsAmong (ids_from first n) x → (first ≤ x) × (x < first + n)
among_from first zero x among = absurd among
among_from first (suc n) x among = ⊎_elim
    (λ (is : x ≡ first + n). (omega arith, omega arith))
    (λ (later : IsAmong (ids_from first n) x). let ih = among_from first n x later in (ih.0, omega (arith, ih.1)))
    among

from_repeats_none : (first n : ℕ) → RepeatsNone (ids_from first n)
from_repeats_none first zero = tt
from_repeats_none first (suc n) = ((λ among. let inside = among_from first n (first + n) among in omega (arith, inside.1)), from_repeats_none first n)

among_either : (ids others : List ℕ) (x : ℕ) → IsAmong (ids ++ others) x → IsAmong ids x ⊎ IsAmong others x
among_either [] others x among = inr among
among_either (id ∷ ids) others x among = ⊎_elim
    (λ (is : x ≡ id). inl (inl is))
    (λ (later : IsAmong (ids ++ others) x). ⊎_elim (λ (one : IsAmong ids x). inl (inr one)) (λ (other : IsAmong others x). inr other) (among_either ids others x later))
    among

both_repeat_none : (ids others : List ℕ) → RepeatsNone ids → RepeatsNone others → ((x : ℕ) → IsAmong ids x → IsAmong others x → ⊥) → RepeatsNone (ids ++ others)
both_repeat_none [] others once others_once apart = others_once
both_repeat_none (id ∷ ids) others once others_once apart = (
  (λ among. ⊎_elim (λ (one : IsAmong ids id). once.0 one) (λ (other : IsAmong others id). apart id (inl refl) other) (among_either ids others id among)),
  both_repeat_none ids others once.1 others_once (λ x one other. apart x (inr one) other),
)

module _ (table : TableValue) (more : ℕ) (law : Lawful table) (booked : Booked table) (few : table.config.pages + more ≤ MAX_PAGES) (fits : table.config.first_version < 2 ^ 64) where
  abbrev version : ℕ
  version = table.config.first_version

  abbrev slots : List SlotValue
  slots = table.slots ++ replicate more (free_slot version)

  abbrev free : List ℕ
  free = ids_from table.config.pages more ++ table.free

  all_slots : length slots ≡ table.config.pages + more
  all_slots = omega (arith, law.bounds.slots, length-append table.slots (replicate more (free_slot version)), length-replicate {A = SlotValue} more (free_slot version))

  -- a free page is inside, and free
  is_free : (x : ℕ) → IsAmong free x → (x < length slots) × ((slot_in slots x).stage ≡ Free)
  is_free x among = ⊎_elim
      (λ (new : IsAmong (ids_from table.config.pages more) x).
      let inside = among_from table.config.pages more x new in (
        omega (arith, inside.1, all_slots),
        ap (λ (o : Outline). o.stage) (same_outline table.slots more version x) ∙ ap (λ (s : SlotValue). s.stage) (get_or_past table.slots x (free_slot 0) (omega (arith, inside.0, law.bounds.slots))),
      ))
      (λ (old : IsAmong table.free x).
      let was = law.free_list.are_free x old in
      (omega (arith, was.0, all_slots, law.bounds.slots), ap (λ (o : Outline). o.stage) (same_outline table.slots more version x) ∙ was.1))
      (among_either (ids_from table.config.pages more) table.free x among)

  free_list : FreeList slots free
  free_list = record {
    once = both_repeat_none (ids_from table.config.pages more) table.free (from_repeats_none table.config.pages more) law.free_list.once
        (λ x new old. let inside = among_from table.config.pages more x new in let was = law.free_list.are_free x old in omega (arith, inside.0, was.0, law.bounds.slots));
    are_free = is_free;
  }

  lawful : Lawful (with_more_pages more table)
  lawful = record {
    rows = subst (λ at. Rows key_count at table.root) (sym (same_outlines table.slots more version)) law.rows;
    pages = each_slot_then HasPage table.slots more version (λ in_row. cc) law.pages;
    merged = each_slot_then IsEmptied table.slots more version (λ is. cc) law.merged;
    free_list = free_list;
    bounds = record {
      versions = each_slot_then (λ slot. slot.version < 2 ^ 64) table.slots more version fits law.bounds.versions;
      number = law.bounds.number;
      slots = all_slots;
      config = record {
        made_with = law.bounds.config.made_with;
        good = law.bounds.config.good;
        no_fewer = omega (arith, law.bounds.config.no_fewer);
        few = few;
      };
    };
  }

  pub kept : KeptWithMorePages more table (with_more_pages more table)
  kept = record {
    lawful = lawful;
    booked = omega (arith, booked, same_count table.slots more version);
    slots = λ page inside. get_or_append_left table.slots (replicate more (free_slot version)) (free_slot 0) page inside;
    map = λ key value. (
      (λ maps. (maps.0, ap (at key) (sym (same_share table.slots more version maps.0)) ∙ maps.1)),
      (λ maps. (maps.0, ap (at key) (same_share table.slots more version maps.0) ∙ maps.1)),
    );
    pairs = same_pairs table.slots more version;
    rows = λ top level row. (
      (λ is. subst (λ at. IsRowOf at top level row) (same_outlines table.slots more version) is),
      (λ is. subst (λ at. IsRowOf at top level row) (sym (same_outlines table.slots more version)) is),
    );
    walks = λ key walk. (
      (λ is. subst (λ at. IsWalkFrom at table.root key walk) (same_outlines table.slots more version) is),
      (λ is. subst (λ at. IsWalkFrom at table.root key walk) (sym (same_outlines table.slots more version)) is),
    );
    free = omega (arith, length-append (ids_from table.config.pages more) table.free, length-ids_from table.config.pages more);
  }

pub more_pages_law : MorePagesLaw
more_pages_law table more law booked few fits = kept table more law booked few fits

-- the ids of a new table with more pages
pub ids_then : (pages more : ℕ) → 1 ≤ pages → ids_from pages more ++ ids_down pages ≡ ids_down (pages + more)
ids_then zero more some = absurd (omega arith)
ids_then (suc n) zero some = let same : suc n + 0 ≡ suc n = omega arith in rw same refl
ids_then (suc n) (suc more) some =
    let same : suc n + suc more ≡ suc (suc (n + more)) = omega arith in
    let one : suc n + more ≡ suc (n + more) = omega arith in
    rw same (λ i. one i ∷ (ids_then (suc n) more some ∙ ap ids_down one) i)

pub same_as_new : SameAsNewLaw
same_as_new config more some i = record {
  slots = first_slot config.first_version ∷ (replicate-append-replicate (config.pages - 1) more (free_slot config.first_version) ∙ ap (λ n. replicate n (free_slot config.first_version)) others) i;
  free = ids_then config.pages more some i;
  root = 0;
  book = record { inserted = 0; removed = 0; modified = 0 };
  config = more_pages more config;
}
  where
    others : (config.pages - 1) + more ≡ (config.pages + more) - 1
    others = omega arith
