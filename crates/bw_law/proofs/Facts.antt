-- What a lawful table shows of its pages, in the words of the code.
use Rattle.std.proofs.Common.{◌≡◌, ◌≢◌, ◌↔◌, ℕ, zero, suc, ◌+◌, ◌<◌, ◌≤◌, ◌^◌, true, List, [], ◌∷◌, length, Some, None, sym, ◌∙◌, ap, ⊎_elim, arith, ◌++◌, set, refl, length-append}
use Rattle.std.specs.Prelude.{option_map}
use Rattle.std.proofs.lemmas.List.{length-set}
use Rattle.std.proofs.lemmas.List.Sums.{get_or-le-sum_by}
use Rattle.bw_keys.specs.declared.page.Pid.{Pid}
use Rattle.bw_keys.specs.declared.page.TheConstants.{MAX_DEPTH, MAX_LEVEL}
use Rattle.bw_keys.specs.Ranges.{key_count, end_of}
use Rattle.bw_delta.specs.Entries.{at}
use Rattle.bw_delta.specs.Records.{Records}
use Rattle.bw_delta.specs.Fence.{fences}
use Rattle.bw_delta.specs.Pairs.{routes}
use Rattle.bw_delta.proofs.Stands.{routes_rise}
use Rattle.bw_step.specs.declared.view.Stage.{Stage}
use Rattle.bw_step.specs.declared.view.Stage.TheVariants.{Free, Unposted, Posted, Marked, Merged}
use Rattle.bw_step.specs.Stages.{is_in_row, has_term, is_leaving}
use Rattle.bw_law.specs.declared.pages.TheConstants.{MAX_PAGES}
use Rattle.bw_law.specs.Slots.{SlotValue, free_slot, pairs_in, routes_in}
use Rattle.bw_law.specs.Walks.{IsAmong}
use Rattle.bw_law.specs.Tables.{TableValue, slot_at, id_of, IsPageOf, FreeList, Lawful, leaf_pairs, Booked, outlines, Maps}
use Rattle.bw_law.specs.Refusals.{last_id}
use Rattle.bw_law.proofs.Lists.{found_within}
use Rattle.bw_law.proofs.Accepted.{Holds}
use Rattle.bw_law.proofs.Slots.{in_bounds, used_in_bounds}
use Rattle.bw_law.proofs.FreeIds.{last_is_among, free_returned}
use Rattle.bw_law.specs.Laws.{FitLaw}
use Rattle.bw_law.proofs.Walk.{term_in_row, low_is_live}
use Rattle.bw_law.proofs.Shares.{leaf_pairs_in_row, Elsewhere, maps_cases, only_here}
use Rattle.bw_law.proofs.Chains.{some_route, pairs_are, routes_are, leaf_count, inner_count, high_is, low_is}
use Rattle.bw_law.proofs.Pigeonhole.{different_numbers_below, routes_to_different_pages}

-- a key that is found is that of an entry
pub found_among_entries : {X : Type 0} → (key : ℕ) (x : X) (es : List (ℕ × X)) → at key es ≡ Some x → 0 < length es
found_among_entries key x [] found = cc
found_among_entries key x (e ∷ es) found = omega arith

-- the free list isn't longer than the slots
pub free_list_fits : (slots : List SlotValue) (free : List ℕ) → FreeList slots free → length free ≤ length slots
free_list_fits slots free list = different_numbers_below (length slots) free list.once (λ x among. (list.are_free x among).0)

-- and it has room for one more where a slot isn't named in it
pub free_list_has_room : (slots : List SlotValue) (free : List ℕ) (page : ℕ) → FreeList slots free → page < length slots → (IsAmong free page → ⊥) → length free + 1 ≤ length slots
free_list_has_room slots free page list inside not_among = omega (
  arith,
  free_list_fits (set slots page (free_slot 0)) (free ++ page ∷ []) (free_returned slots free page (free_slot 0) inside not_among refl list),
  length-set slots page (free_slot 0),
  length-append free (page ∷ []),
)

module _ (table : TableValue) (law : Lawful table) where
  abbrev pub IsHere : ℕ → Type 0
  IsHere page = is_in_row (slot_at table page).stage ≡ true

  -- how many slots there are
  pub slots_are_few : length table.slots ≤ MAX_PAGES
  slots_are_few = omega (arith, law.bounds.slots, law.bounds.config.few)

  -- the root is in a row, and the first there
  pub root_is_here : IsHere table.root
  root_is_here = ap is_in_row law.rows.root_posted

  pub root_is_first : (slot_at table table.root).low ≡ 0
  root_is_first = law.rows.root_first

  -- a page in a row, or one that isn't free, is in the table
  pub here_is_inside : (page : ℕ) → IsHere page → page < length table.slots
  here_is_inside page here = in_bounds table.slots page here

  pub used_is_inside : (page : ℕ) → (slot_at table page).stage ≢ Free → page < length table.slots
  used_is_inside page used = used_in_bounds table.slots page used

  -- a free id is that of a free slot
  pub free_is_inside : (id : ℕ) → IsAmong table.free id → (id < length table.slots) × ((slot_at table id).stage ≡ Free)
  free_is_inside id among = law.free_list.are_free id among

  -- the id that a new page takes
  pub last_id_is_free : (id : ℕ) → last_id table.free ≡ Some id → (id < length table.slots) × ((slot_at table id).stage ≡ Free)
  last_id_is_free id is = free_is_inside id (last_is_among table.free id is)

  -- a page in a row has a sound chain, whose summary its slot is
  pub chain_of_page : (page : ℕ) → IsHere page → (chain : Records) × IsPageOf (slot_at table page) chain
  chain_of_page page here = law.pages page here

  -- the greatest depth and the greatest level
  pub depth_fits : (page : ℕ) → IsHere page → (slot_at table page).depth ≤ MAX_DEPTH
  depth_fits page here = let own = law.pages page here in omega (arith, own.1.depth, own.1.sound.not_deep)

  pub level_fits : (page : ℕ) → IsHere page → (slot_at table page).level ≤ MAX_LEVEL
  level_fits page here = (law.pages page here).1.not_tall

  -- a page that is being removed, or was merged, is below the root's level
  pub leaving_level_fits : (page : ℕ) → is_leaving (slot_at table page).stage ≡ true → (slot_at table page).level < MAX_LEVEL
  leaving_level_fits page leaving = omega (arith, law.rows.leaving_under page leaving, level_fits table.root root_is_here)

  -- so no slot of a page has a higher level
  pub used_level_fits : (page : ℕ) → (slot_at table page).stage ≢ Free → (slot_at table page).level ≤ MAX_LEVEL
  used_level_fits page used = by_stage (slot_at table page).stage (λ _. (slot_at table page).stage)
    where
      by_stage : (stage : Stage) → (slot_at table page).stage ≡ stage → (slot_at table page).level ≤ MAX_LEVEL
      by_stage Free is = absurd (used is)
      by_stage Unposted is = level_fits page (ap is_in_row is)
      by_stage Posted is = level_fits page (ap is_in_row is)
      by_stage Marked is = level_fits page (ap is_in_row is)
      by_stage Merged is = omega (arith, leaving_level_fits page (ap is_leaving is))

  -- the range of a page in a row holds a key, and ends among the keys
  pub range_is_not_empty : (page : ℕ) → IsHere page → (slot_at table page).low < end_of (slot_at table page).high
  range_is_not_empty page here = law.rows.some_key page here

  pub range_is_among_keys : (page : ℕ) → IsHere page → end_of (slot_at table page).high ≤ key_count
  range_is_among_keys page here = law.rows.within page here

  -- the right link leads to the next page of the level
  pub right_is_next : (page : ℕ) (right : Pid) → IsHere page → (slot_at table page).right ≡ Some right
      → IsHere right.0 × ((slot_at table right.0).level ≡ (slot_at table page).level) × ((slot_at table right.0).low ≡ end_of (slot_at table page).high)
  right_is_next page right here is = law.rows.linked page right.0 here (ap (option_map id_of) is)

  -- a page without a right link ends at the top
  pub last_ends_at_top : (page : ℕ) → IsHere page → (slot_at table page).right ≡ None → end_of (slot_at table page).high ≡ key_count
  last_ends_at_top page here none = law.rows.ends page here (ap (option_map id_of) none)

  -- each route lies in the range of its page, and is the term of the page that it leads to
  pub route_in_range : (page key : ℕ) (child : Pid) → IsHere page → at key (routes_in (slot_at table page)) ≡ Some child → Holds (slot_at table page) key
  route_in_range page key child here found =
      let own = law.pages page here in
      let chain = own.0 in
      let inside = found_within (fences chain).low (end_of (fences chain).high) key child (routes chain) (routes_rise chain own.1.sound.built) (ap (at key) (sym (routes_are (slot_at table page) chain own.1)) ∙ found) in
      (omega (arith, inside.0, low_is (slot_at table page) chain own.1), omega (arith, inside.1, ap end_of (high_is (slot_at table page) chain own.1)))

  pub route_is_term : (page key : ℕ) (child : Pid) → IsHere page → at key (routes_in (slot_at table page)) ≡ Some child
      → (has_term (slot_at table child.0).stage ≡ true) × ((slot_at table page).level ≡ (slot_at table child.0).level + 1) × ((slot_at table child.0).low ≡ key)
  route_is_term page key child here found =
      let term = law.rows.routed page child.0 key here (route_in_range page key child here found) (ap (option_map id_of) found) in
      (term.posted, term.above, term.at_low)

  pub routed_is_inside : (page key : ℕ) (child : Pid) → IsHere page → at key (routes_in (slot_at table page)) ≡ Some child → child.0 < length table.slots
  routed_is_inside page key child here found =
      let term = route_is_term page key child here found in
      used_is_inside child.0 (λ free. cc (ap has_term free, term.0))

  -- what a page counts

  pub leaf_counts_pairs : (page : ℕ) → IsHere page → (slot_at table page).level ≡ 0 → (slot_at table page).count ≡ length (pairs_in (slot_at table page))
  leaf_counts_pairs page here leaf =
      let own = law.pages page here in leaf_count (slot_at table page) own.0 own.1 leaf ∙ ap length (sym (pairs_are (slot_at table page) own.0 own.1))

  pub inner_counts_routes : (page level : ℕ) → IsHere page → (slot_at table page).level ≡ level + 1 → (slot_at table page).count ≡ length (routes_in (slot_at table page))
  inner_counts_routes page level here inner =
      let own = law.pages page here in inner_count (slot_at table page) own.0 own.1 level inner ∙ ap length (sym (routes_are (slot_at table page) own.0 own.1))

  -- a leaf has no more pairs than were inserted
  pub leaf_count_fits : (page : ℕ) → Booked table → IsHere page → (slot_at table page).level ≡ 0 → (slot_at table page).count ≤ table.book.inserted
  leaf_count_fits page booked here leaf =
      omega (
        arith,
        booked,
        leaf_counts_pairs page here leaf,
        ap length (leaf_pairs_in_row (slot_at table page) here leaf),
        get_or-le-sum_by (λ slot. length (leaf_pairs slot)) table.slots page (free_slot 0) (here_is_inside page here),
      )

  -- the routes of a page lead to different pages
  pub inner_count_fits : (page level : ℕ) → IsHere page → (slot_at table page).level ≡ level + 1 → (slot_at table page).count ≤ length table.slots
  inner_count_fits page level here inner =
      let own = law.pages page here in
      let chain = own.0 in
      let same = routes_are (slot_at table page) chain own.1 in
      omega (
        arith,
        inner_count (slot_at table page) chain own.1 level inner,
        routes_to_different_pages (length table.slots) (λ x. (slot_at table x).low) (fences chain).low (end_of (fences chain).high) (routes chain) (routes_rise chain own.1.sound.built) (λ key child found.
            let there = ap (at key) same ∙ found in (routed_is_inside page key child here there, (route_is_term page key child here there).2)),
      )

  -- so the number of entries fits
  pub count_fits : (page : ℕ) → Booked table → IsHere page → (slot_at table page).count < 2 ^ 64
  count_fits page booked here = by_level (slot_at table page).level (λ _. (slot_at table page).level)
    where
      by_level : (level : ℕ) → (slot_at table page).level ≡ level → (slot_at table page).count < 2 ^ 64
      by_level zero leaf = omega (arith, leaf_count_fits page booked here leaf, law.bounds.number)
      by_level (suc level) inner = omega (arith, inner_count_fits page level here (omega arith), slots_are_few)

  -- below an inner page, the page that begins where it begins stays in its row
  pub first_child : (page level : ℕ) → IsHere page → (slot_at table page).level ≡ level + 1
      → (child : Pid) × (at (slot_at table page).low (routes_in (slot_at table page)) ≡ Some child) × IsHere child.0 × ((slot_at table child.0).level ≡ level) × ((slot_at table child.0).low ≡ (slot_at table page).low)
  first_child page level here inner =
      let live = low_is_live key_count (outlines table.slots) table.root law.rows page level here inner in
      let route = some_route (at (slot_at table page).low (routes_in (slot_at table page))) live.0 live.1.0 in
      let term = route_is_term page (slot_at table page).low route.0 here route.1 in
      let unmerged : (slot_at table route.0.0).stage ≢ Merged = λ merged. live.1.1 (ap (λ x. (slot_at table x).stage) (sym route.2) ∙ merged) in
      (route.0, route.1, term_in_row (slot_at table route.0.0).stage term.0 unmerged, omega (arith, term.1, inner), term.2)

  -- the leaf whose range holds a key has what the map has there
  pub leaf_decides : (page key value : ℕ) → IsHere page → (slot_at table page).level ≡ 0 → Holds (slot_at table page) key
      → Maps table.slots key value ↔ (at key (pairs_in (slot_at table page)) ≡ Some value)
  leaf_decides page key value here leaf holds =
      let share = leaf_pairs_in_row (slot_at table page) here leaf in (
        (λ maps. ⊎_elim
            (λ (found : at key (leaf_pairs (slot_at table page)) ≡ Some value). ap (at key) (sym share) ∙ found)
            (λ (off : Elsewhere table.slots page key value). absurd (only_here table.slots table.root page key value law.rows law.pages here leaf holds off))
            (maps_cases table.slots page key value maps)),
        (λ found. (page, ap (at key) share ∙ found)),
      )

-- all that is stored of the pages fits
pub fit_law : FitLaw
fit_law table law booked = record {
  slots = slots_are_few table law;
  free = free_list_fits table.slots table.free law.free_list;
  pages = λ page here. record {
    inside = here_is_inside table law page here;
    depth = depth_fits table law page here;
    level = level_fits table law page here;
    count = count_fits table law page booked here;
    right = λ right is. let next = right_is_next table law page right here is in here_is_inside table law right.0 next.0;
    routes = λ key child found. routed_is_inside table law page key child here found;
  };
}
