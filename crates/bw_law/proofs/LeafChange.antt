-- A record for a key of a leaf keeps the law, and changes the map at that key alone.
use Rattle.std.proofs.Common.{◌≡◌, ◌≢◌, ℕ, ◌+◌, ◌<◌, ◌^◌, cond, eqb, length, set, Option, Some, refl, sym, ap, ◌∙◌, inl, inr, ⊎_elim, arith}
use Rattle.std.proofs.lemmas.Bool.{eq-eqb, ne_eqb}
use Rattle.bw_delta.specs.declared.chain.Delta.{Delta}
use Rattle.bw_delta.specs.declared.fences.Fences.{Fences}
use Rattle.bw_delta.specs.Entries.{at}
use Rattle.bw_delta.specs.Records.{Records, above}
use Rattle.bw_delta.specs.Fence.{fences, fences_after}
use Rattle.bw_delta.specs.Pairs.{pairs, pairs_after, routes, routes_after}
use Rattle.bw_delta.specs.Sound.{MayStandOver}
use Rattle.bw_step.specs.declared.survey.Book.{Book}
use Rattle.bw_law.specs.Slots.{SlotValue, pairs_in, routes_in}
use Rattle.bw_law.specs.Tables.{TableValue, slot_at, number_of, outline, IsPageOf, Lawful, leaf_pairs, pair_count, ChangesKey}
use Rattle.bw_law.specs.Effects.{with_record}
use Rattle.bw_law.proofs.Accepted.{MayChange}
use Rattle.bw_law.proofs.Slots.{in_bounds, rows_kept, HasPage, in_row_emptied, good_slots, good-set}
use Rattle.bw_law.proofs.FreeIds.{free-set, in_row_not_free}
use Rattle.bw_law.proofs.Shares.{leaf_pairs_in_row, Elsewhere, maps-set, maps_cases, only_here, count-set}
use Rattle.bw_law.proofs.Chains.{above_page, pairs_above, routes_above, route_at}

-- what a record for a key of a leaf does, where the leaf had the one value at the key, or none, and has the other
pub record Changes (table : TableValue) (page key : ℕ) (delta : Delta) (before after : Option ℕ) (new : SlotValue) : Type 0 where
  pub lawful : (book : Book) → number_of book < 2 ^ 64 → Lawful (record table { slots = set table.slots page new; book = book })
  pub map : ChangesKey table.slots (set table.slots page new) key before after
  pub count : pair_count (set table.slots page new) + length (pairs_in (slot_at table page)) ≡ pair_count table.slots + length (pairs_after delta (pairs_in (slot_at table page)))

-- a record for a key of a leaf
module _ (table : TableValue) (page seen key : ℕ) (law : Lawful table) (may : MayChange table page seen key) (delta : Delta) (before after : Option ℕ) (count : ℕ)
    (stands : (chain : Records) → IsPageOf (slot_at table page) chain → MayStandOver delta chain)
    (same_fence : (f : Fences) → fences_after delta f ≡ f) (same_routes : (es : _) → routes_after delta es ≡ es)
    (counted : (chain : Records) → IsPageOf (slot_at table page) chain → count ≡ length (pairs_after delta (pairs chain)) + length (routes_after delta (routes chain)))
    (had : at key (pairs_in (slot_at table page)) ≡ before)
    (has : (k : ℕ) → at k (pairs_after delta (pairs_in (slot_at table page))) ≡ cond (eqb k key) after (at k (pairs_in (slot_at table page)))) where
  abbrev slot : SlotValue
  slot = slot_at table page

  abbrev new : SlotValue
  new = with_record delta count slot

  own : (chain : Records) × IsPageOf slot chain
  own = law.pages page may.open_page.in_row

  inside : page < length table.slots
  inside = in_bounds table.slots page may.open_page.in_row

  new_page : HasPage new
  new_page in_row = (
    above delta own.0,
    above_page slot own.0 own.1 new delta (stands own.0 own.1) may.shallow refl refl refl (own.1.fence ∙ sym (same_fence (fences own.0))) (counted own.0 own.1),
  )

  same_outline : outline new ≡ outline slot
  same_outline = λ i. record (outline slot) { routes = route_at ((routes_above slot own.0 own.1 new delta refl ∙ same_routes (routes_in slot)) i) }

  change_keeps_law : (book : Book) → number_of book < 2 ^ 64 → Lawful (record table { slots = set table.slots page new; book = book })
  change_keeps_law book number =
      let good = good-set table.slots table.config.pages page new inside new_page (in_row_emptied new may.open_page.in_row) (omega (arith, may.open_page.rises, law.bounds.versions page)) (good_slots table law) in
      record {
        rows = rows_kept table.slots table.root page new inside same_outline law.rows;
        pages = good.pages;
        merged = good.merged;
        free_list = free-set table.slots table.free page new (in_row_not_free table.slots table.free page law.free_list may.open_page.in_row) law.free_list;
        bounds = record { versions = good.versions; number = number; slots = good.all_there; config = law.bounds.config };
      }

  -- the key stands in no other slot
  nowhere_else : (value : ℕ) → Elsewhere table.slots page key value → ⊥
  nowhere_else value off = only_here table.slots table.root page key value law.rows law.pages may.open_page.in_row may.leaf may.range off

  -- the share that the slot had and the one that it has
  was : leaf_pairs slot ≡ pairs_in slot
  was = leaf_pairs_in_row slot may.open_page.in_row may.leaf

  is : leaf_pairs new ≡ pairs_after delta (pairs_in slot)
  is = leaf_pairs_in_row new may.open_page.in_row may.leaf ∙ pairs_above slot own.0 own.1 new delta refl

  -- what the leaf has at each key then
  here : (k : ℕ) → at k (leaf_pairs new) ≡ cond (eqb k key) after (at k (leaf_pairs slot))
  here k = ap (at k) is ∙ has k ∙ ap (λ es. cond (eqb k key) after (at k es)) (sym was)

  at_key : at key (leaf_pairs new) ≡ after
  at_key = here key ∙ ap (λ b. cond b after (at key (leaf_pairs slot))) (eq-eqb key key (λ _. key))

  elsewhere : (k v : ℕ) → k ≢ key → at k (leaf_pairs new) ≡ at k (leaf_pairs slot)
  elsewhere k v other = here k ∙ ap (λ b. cond b after (at k (leaf_pairs slot))) (ne_eqb k key other)

  -- so the record changes the map at its key alone
  pub changes : Changes table page key delta before after new
  changes = record {
    lawful = change_keeps_law;
    count = omega (arith, count-set table.slots page new inside, ap length was, ap length is);
    map = record {
      had = λ v. (
        (λ same. (page, ap (at key) was ∙ had ∙ same)),
        (λ maps. ⊎_elim
            (λ (found : at key (leaf_pairs slot) ≡ Some v). sym had ∙ ap (at key) (sym was) ∙ found)
            (λ (off : Elsewhere table.slots page key v). absurd (nowhere_else v off))
            (maps_cases table.slots page key v maps)),
      );
      has = λ v. (
        (λ same. (maps-set table.slots page new key v inside).1 (inl (at_key ∙ same))),
        (λ maps. ⊎_elim
            (λ (found : at key (leaf_pairs new) ≡ Some v). sym at_key ∙ found)
            (λ (off : Elsewhere table.slots page key v). absurd (nowhere_else v off))
            ((maps-set table.slots page new key v inside).0 maps)),
      );
      others = λ k v other. (
        (λ maps. ⊎_elim
            (λ (found : at k (leaf_pairs new) ≡ Some v). (page, sym (elsewhere k v other) ∙ found))
            (λ (off : Elsewhere table.slots page k v). (off.0, off.2))
            ((maps-set table.slots page new k v inside).0 maps)),
        (λ maps. (maps-set table.slots page new k v inside).1 (⊎_elim
            (λ (found : at k (leaf_pairs slot) ≡ Some v). inl (elsewhere k v other ∙ found))
            (λ (off : Elsewhere table.slots page k v). inr off)
            (maps_cases table.slots page k v maps))),
      );
    };
  }
