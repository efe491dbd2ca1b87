-- Split keeps the law, the book and the map.
use Rattle.std.proofs.Common.{◌≡◌, ◌≢◌, ◌⊎◌, ◌↔◌, ℕ, ◌+◌, ◌<◌, ◌≤◌, Bool, true, false, ◌&&◌, ◌||◌, not, cond, eqb, ltb, List, [], ◌∷◌, length, set, Option, Some, None, is_some, refl, sym, ◌∙◌, ap, subst, inl, inr, ⊎_elim, arith}
use Rattle.std.specs.Prelude.{option_map}
use Rattle.std.proofs.lemmas.Bool.Decides.{nat_tests}
use Rattle.bw_keys.specs.declared.range.Fence.TheVariants.{Key}
use Rattle.bw_keys.specs.declared.page.Pid.{Pid}
use Rattle.bw_keys.specs.Ranges.{key_count, end_of}
use Rattle.bw_delta.specs.declared.chain.Delta.TheVariants.{Split}
use Rattle.bw_delta.specs.Entries.{at, below, from, rises}
use Rattle.bw_delta.specs.Pages.{listed_length, Page, IsPage}
use Rattle.bw_delta.specs.Records.{Records, bare, above}
use Rattle.bw_delta.specs.Fence.{fences, page_fences}
use Rattle.bw_delta.specs.Pairs.{pairs, pairs_listed, routes, routes_listed}
use Rattle.bw_delta.specs.Sound.{page_for}
use Rattle.bw_delta.proofs.Stands.{pairs_rise, routes_rise, page_for_is_page}
use Rattle.bw_step.specs.declared.view.Stage.TheVariants.{Free}
use Rattle.bw_step.specs.Stages.{is_in_row, is_leaving}
use Rattle.bw_step.specs.Proposals.{split}
use Rattle.bw_law.specs.Slots.{SlotValue, slot_in, pairs_in, routes_in}
use Rattle.bw_law.specs.Rows.{Rows}
use Rattle.bw_law.specs.Tables.{TableValue, slot_at, id_of, outline, outlines, IsPageOf, Lawful, is_leaf_in_row, leaf_pairs, Booked}
use Rattle.bw_delta.specs.Entries.{starts_at}
use Rattle.bw_delta.specs.Pages.{upper_part}
use Rattle.bw_law.specs.Refusals.{new_id, is_leaving_at}
use Rattle.bw_law.specs.Effects.{lower_half, upper_half, pid, after}
use Rattle.bw_law.specs.Laws.{KeptBy}
use Rattle.bw_law.proofs.Outlines as outlined
use Rattle.bw_law.proofs.Outlines.{write}
use Rattle.bw_law.proofs.RowsOfSplit.{split_keeps_rows}
use Rattle.bw_law.proofs.Lists.{option_cases, at-below, at-from, found_within, length-parts}
use Rattle.bw_law.proofs.Accepted.{MaySplit}
use Rattle.bw_law.proofs.Slots.{in_bounds, HasPage, in_row_emptied, good_slots, outlines_of_two, good_two, lawful_with}
use Rattle.bw_law.proofs.FreeIds.{last_is_among, free-set, in_row_not_free, free_taken}
use Rattle.bw_law.proofs.Shares.{no_pairs_outside, KeepsPairs, shares_moved, booked_with}
use Rattle.bw_law.proofs.Chains.{low_is, high_is, right_is, chain_is, pairs_are, routes_are, lies_in, inner_pairs_none, above_page, pairs_above, routes_above, listed_count, bare_page, route_at, chosen_routes}
use Rattle.bw_law.proofs.Bases.{pairs_of_base, routes_of_base, pairs_from, routes_from, upper_part_is_page}

-- a key that is found, and isn't the first, is past the low
after_first : {X : Type 0} → (low end key : ℕ) (es : List (ℕ × X)) → rises low end es ≡ true → is_some (at key es) ≡ true → starts_at key es ≡ false → low < key
after_first low end key [] rise found later = cc
after_first low end key (e ∷ es) rise found later = ⊎_elim
    (λ (none : at key es ≡ None). grind (arith, nat_tests))
    (λ (some : (x : _) × (at key es ≡ Some x)). let inside = found_within (e.0 + 1) end key some.0 es in grind (arith, nat_tests))
    (option_cases (at key es))

-- one of two tests holds
either_found : (a b : Bool) → not (a || b) ≡ false → (a ≡ true) ⊎ (b ≡ true)
either_found true b found = inl refl
either_found false b found = inr (grind arith)

-- a route that is there leads to a page that stays
some_child : (slots : List SlotValue) (o : Option Pid) → is_some o ≡ true → is_leaving_at slots o ≡ false → (c : ℕ) × (option_map id_of o ≡ Some c) × (is_leaving (slot_in slots c).stage ≡ false)
some_child slots None some stays = cc
some_child slots (Some p) some stays = (p.0, refl, stays)

-- a change of a list that leaves the empty one empty may be made before or after a choice
changed_choice : {X : Type 0} (f : List X → List X) → f [] ≡ [] → (b : Bool) (es : List X) → cond b (f es) [] ≡ f (cond b es [])
changed_choice f same true es = refl
changed_choice f same false es = sym same

module _ (table : TableValue) (page seen separator : ℕ) (base : Page) (law : Lawful table) (may : MaySplit table page seen separator base) where
  abbrev slot : SlotValue
  slot = slot_at table page

  abbrev new : ℕ
  new = new_id table

  abbrev low_slot : SlotValue
  low_slot = lower_half separator (pid new) base slot

  abbrev high_slot : SlotValue
  high_slot = upper_half (slot_at table new).version separator base slot

  in_row : is_in_row slot.stage ≡ true
  in_row = may.open_page.in_row

  -- the page and its chain
  own : (chain : Records) × IsPageOf slot chain
  own = law.pages page in_row

  inside : page < length table.slots
  inside = in_bounds table.slots page in_row

  new_free : (new < length table.slots) × ((slot_at table new).stage ≡ Free)
  new_free = law.free_list.are_free new (last_is_among table.free new may.room)

  apart : new ≢ page
  apart same = cc (ap (λ x. is_in_row (slot_at table x).stage) same, ap is_in_row new_free.1, in_row)

  -- what the separator isn't
  found : not (is_some (at separator (pairs_in slot)) || is_some (at separator (routes_in slot))) ≡ false
  found = let bad = may.good_separator in grind arith

  later : (starts_at separator (pairs_in slot) || starts_at separator (routes_in slot)) ≡ false
  later = let bad = may.good_separator in grind arith

  staying : is_leaving_at table.slots (at separator (routes_in slot)) ≡ false
  staying = let bad = may.good_separator in grind arith

  -- the separator is past the page's low
  pub above_low : slot.low < separator
  above_low = ⊎_elim
      (λ (pair : is_some (at separator (pairs_in slot)) ≡ true).
      omega (
        arith,
        low_is slot own.0 own.1,
        after_first (fences own.0).low (end_of (fences own.0).high) separator (pairs own.0) (pairs_rise own.0 own.1.sound.built)
            (ap (λ es. is_some (at separator es)) (sym (pairs_are slot own.0 own.1)) ∙ pair) (ap (starts_at separator) (sym (pairs_are slot own.0 own.1)) ∙ grind (arith, later)),
      ))
      (λ (route : is_some (at separator (routes_in slot)) ≡ true).
      omega (
        arith,
        low_is slot own.0 own.1,
        after_first (fences own.0).low (end_of (fences own.0).high) separator (routes own.0) (routes_rise own.0 own.1.sound.built)
            (ap (λ es. is_some (at separator es)) (sym (routes_are slot own.0 own.1)) ∙ route) (ap (starts_at separator) (sym (routes_are slot own.0 own.1)) ∙ grind (arith, later)),
      ))
      (either_found _ _ found)

  -- the base is the upper part of the page
  base_is : base ≡ upper_part separator (page_for own.0)
  base_is = may.same ∙ ap (λ c. upper_part separator (page_for c)) (chain_is slot own.0 own.1)

  base_pairs : pairs_listed base.listed ≡ from separator (pairs_in slot)
  base_pairs =
      ap (λ (p : Page). pairs_listed p.listed) base_is ∙ pairs_from separator (page_for own.0).listed
      ∙ ap (from separator) (pairs_of_base own.0 own.1.sound ∙ sym (pairs_are slot own.0 own.1))

  base_routes : routes_listed base.listed ≡ from separator (routes_in slot)
  base_routes =
      ap (λ (p : Page). routes_listed p.listed) base_is ∙ routes_from separator (page_for own.0).listed
      ∙ ap (from separator) (routes_of_base own.0 own.1.sound ∙ sym (routes_are slot own.0 own.1))

  -- the page has the entries that it keeps and those that the base lists
  halves : slot.count ≡ (length (below separator (pairs own.0)) + length (below separator (routes own.0))) + listed_length base.listed
  halves = omega (
    arith,
    own.1.count,
    listed_count base.listed,
    ap length base_pairs,
    ap length base_routes,
    ap (λ es. length (from separator es)) (pairs_are slot own.0 own.1),
    ap (λ es. length (from separator es)) (routes_are slot own.0 own.1),
    length-parts separator (pairs own.0),
    length-parts separator (routes own.0),
  )

  pub upper_count : listed_length base.listed ≤ slot.count
  upper_count = omega (arith, halves)

  low_page : HasPage low_slot
  low_page _ = (
    above (Split separator (pid new)) own.0,
    above_page slot own.0 own.1 low_slot (Split separator (pid new)) (omega (arith, above_low, low_is slot own.0 own.1), lies_in slot own.0 own.1 separator may.range)
        (omega (arith, may.bare_page)) refl refl refl
        (λ i. record { low = low_is slot own.0 own.1 i; high = Key separator; right = Some (pid new) })
        (omega (arith, halves)),
  )

  base_is_page : IsPage base
  base_is_page = subst IsPage (sym base_is) (upper_part_is_page separator (page_for own.0) (page_for_is_page own.0 own.1.sound) (omega (arith, may.range, ap end_of (high_is slot own.0 own.1))))

  high_page : HasPage high_slot
  high_page _ = (
    bare base,
    bare_page high_slot base base_is_page refl may.kind
        ((λ i. record { low = separator; high = high_is slot own.0 own.1 i; right = right_is slot own.0 own.1 i }) ∙ ap page_fences (sym base_is))
        refl refl own.1.not_tall,
  )

  low_routes : route_at (routes_in low_slot) ≡ (λ k. cond (ltb k separator) (route_at (routes_in slot) k) None)
  low_routes =
      ap route_at (routes_above slot own.0 own.1 low_slot (Split separator (pid new)) refl)
      ∙ chosen_routes (below separator (routes_in slot)) (λ k. ltb k separator) (λ k. at k (routes_in slot)) (λ _. None) (λ k. at-below separator k (routes_in slot))

  high_routes : route_at (routes_in high_slot) ≡ (λ k. cond (ltb k separator) None (route_at (routes_in slot) k))
  high_routes =
      ap route_at base_routes
      ∙ chosen_routes (from separator (routes_in slot)) (λ k. ltb k separator) (λ _. None) (λ k. at k (routes_in slot)) (λ k. at-from separator k (routes_in slot))

  -- what the slots show then
  rows_now : outlines (after table (split page seen separator base)).slots ≡ write (write (outlines table.slots) page (outlined.lower separator new (outline slot))) new (outlined.upper separator (outline slot))
  rows_now =
      outlines_of_two table.slots page new low_slot high_slot inside new_free.0
      ∙ (λ i. write (write (outlines table.slots) page (record (outline low_slot) { routes = low_routes i })) new (record (outline high_slot) { routes = high_routes i }))

  -- on an inner page the separator is the low of a child that stays
  entry : (level : ℕ) → slot.level ≡ level + 1 → (c : ℕ) × (route_at (routes_in slot) separator ≡ Some c) × (is_leaving (slot_at table c).stage ≡ false)
  entry level inner = some_child table.slots (at separator (routes_in slot)) routed staying
    where
      no_pair : at separator (pairs_in slot) ≡ None
      no_pair = ap (at separator) (pairs_are slot own.0 own.1 ∙ inner_pairs_none slot own.0 own.1 level inner)

      routed : is_some (at separator (routes_in slot)) ≡ true
      routed = ⊎_elim
          (λ (pair : is_some (at separator (pairs_in slot)) ≡ true). absurd (cc (pair, ap is_some no_pair)))
          (λ (route : is_some (at separator (routes_in slot)) ≡ true). route)
          (either_found _ _ found)

  -- the pairs go with the keys

  low_share : leaf_pairs low_slot ≡ below separator (leaf_pairs slot)
  low_share =
      ap (λ es. cond (is_leaf_in_row slot) es []) (pairs_above slot own.0 own.1 low_slot (Split separator (pid new)) refl)
      ∙ changed_choice (below separator) refl (is_leaf_in_row slot) (pairs_in slot)

  high_share : leaf_pairs high_slot ≡ from separator (leaf_pairs slot)
  high_share =
      ap (λ b. cond (b && eqb slot.level 0) (pairs_in high_slot) []) (sym in_row)
      ∙ ap (λ es. cond (is_leaf_in_row slot) es []) base_pairs
      ∙ changed_choice (from separator) refl (is_leaf_in_row slot) (pairs_in slot)

  new_share : leaf_pairs (slot_at table new) ≡ []
  new_share = no_pairs_outside (slot_at table new) (ap is_in_row new_free.1)

  same_keys : (k v : ℕ) → ((at k (leaf_pairs low_slot) ≡ Some v) ⊎ (at k (leaf_pairs high_slot) ≡ Some v)) ↔ ((at k (leaf_pairs slot) ≡ Some v) ⊎ (at k (leaf_pairs (slot_at table new)) ≡ Some v))
  same_keys k v =
      let low = ap (at k) low_share ∙ at-below separator k (leaf_pairs slot) in
      let high = ap (at k) high_share ∙ at-from separator k (leaf_pairs slot) in
      let none = ap (at k) new_share in (
        (λ either. grind (arith, nat_tests)),
        (λ either. grind (arith, nat_tests)),
      )

  -- no pair is lost or won
  keeps_pairs : KeepsPairs table.slots (set (set table.slots page low_slot) new high_slot)
  keeps_pairs = shares_moved table.slots page new low_slot high_slot inside new_free.0 apart same_keys
      (omega (arith, ap length low_share, ap length high_share, ap length new_share, length-parts separator (leaf_pairs slot)))

  pub split_keeps : Booked table → KeptBy table (split page seen separator base)
  split_keeps booked = record {
    lawful = lawful_with table (after table (split page seen separator base)) law refl refl
        (subst (λ at. Rows key_count at table.root) (sym rows_now)
        (split_keeps_rows key_count (outlines table.slots) table.root page new separator law.rows in_row new_free.1 above_low may.range.1 entry))
        (good_two table.slots table.config.pages page new low_slot high_slot inside new_free.0 low_page high_page (in_row_emptied low_slot may.open_page.in_row) (in_row_emptied high_slot refl)
        (omega (arith, may.open_page.rises, law.bounds.versions page)) (omega (arith, may.new_rises, law.bounds.versions new)) (good_slots table law))
        (free_taken (set table.slots page low_slot) table.free new high_slot may.room
        (free-set table.slots table.free page low_slot (in_row_not_free table.slots table.free page law.free_list in_row) law.free_list));
    booked = booked_with table (after table (split page seen separator base)) refl keeps_pairs booked;
    map = keeps_pairs.map;
  }
