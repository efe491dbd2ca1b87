-- Merge keeps the law, the book and the map.
use Rattle.std.proofs.Common.{◌≡◌, ◌≢◌, ◌⊎◌, ◌↔◌, ℕ, ◌<◌, Bool, true, false, ◌&&◌, cond, eqb, ltb, List, [], ◌++◌, length, set, Some, None, refl, sym, ◌∙◌, ap, subst, inl, ⊎_elim, arith, length-append}
use Rattle.std.specs.Prelude.{unwrap_or, option_map}
use Rattle.bw_keys.specs.declared.range.Fence.{Fence}
use Rattle.bw_keys.specs.declared.range.Fence.TheVariants.{Key, Top}
use Rattle.bw_keys.specs.Ranges.{key_count, end_of}
use Rattle.bw_delta.specs.Entries.{at, below, from, rises}
use Rattle.bw_delta.specs.Records.{Records, merged}
use Rattle.bw_delta.specs.Fence.{fences}
use Rattle.bw_delta.specs.Pairs.{pairs, routes}
use Rattle.bw_delta.specs.Sound.{Joins}
use Rattle.bw_delta.proofs.Rises.{below_all, from_all}
use Rattle.bw_delta.proofs.Stands.{pairs_rise, routes_rise}
use Rattle.bw_step.specs.declared.view.Stage.TheVariants.{Merged}
use Rattle.bw_step.specs.Stages.{is_in_row}
use Rattle.bw_step.specs.Proposals.{merge}
use Rattle.bw_law.specs.Slots.{SlotValue, pairs_in, routes_in}
use Rattle.bw_law.specs.Rows.{Rows}
use Rattle.bw_law.specs.Tables.{TableValue, slot_at, id_of, outline, outlines, IsPageOf, Lawful, is_leaf_in_row, leaf_pairs, Booked}
use Rattle.bw_law.specs.Effects.{merging_of, merged_chains, joined, taken_in, after}
use Rattle.bw_law.specs.Laws.{KeptBy}
use Rattle.bw_law.proofs.Outlines as outlined
use Rattle.bw_law.proofs.Outlines.{write}
use Rattle.bw_law.proofs.RowsOfMerge.{merge_keeps_rows}
use Rattle.bw_law.proofs.Lists.{or_else, option_cases, at-halves, at-append, found-append}
use Rattle.bw_law.proofs.Accepted.{MayMerge}
use Rattle.bw_law.proofs.Slots.{in_bounds, HasPage, in_row_emptied, good_slots, outlines_of_two, good_two, lawful_with}
use Rattle.bw_law.proofs.FreeIds.{free-set, in_row_not_free}
use Rattle.bw_law.proofs.Shares.{pair_is_spanned, KeepsPairs, shares_moved, booked_with}
use Rattle.bw_law.proofs.Chains.{low_is, high_is, right_is, pairs_are, routes_are, route_at, chosen_routes}

-- a fence that ends at a key is that key
fence_at_key : (fence : Fence) (key : ℕ) → end_of fence ≡ key → key < key_count → fence ≡ Key key
fence_at_key (Key high) key same below = ap Key same
fence_at_key Top key same below = absurd (omega arith)

-- a choice of joined lists joins the choices
both : {X : Type 0} (b : Bool) (xs ys : List X) → cond b (xs ++ ys) [] ≡ cond b xs [] ++ cond b ys []
both true xs ys = refl
both false xs ys = refl

module _ (table : TableValue) (left left_seen page page_seen : ℕ) (law : Lawful table) (may : MayMerge table left left_seen page page_seen) where
  abbrev into : SlotValue
  into = slot_at table left

  abbrev slot : SlotValue
  slot = slot_at table page

  abbrev wide : SlotValue
  wide = joined into slot

  abbrev taken : SlotValue
  taken = taken_in slot

  left_in : is_in_row into.stage ≡ true
  left_in = may.open_left.in_row

  page_in : is_in_row slot.stage ≡ true
  page_in = ap is_in_row may.marked

  own_left : (chain : Records) × IsPageOf into chain
  own_left = law.pages left left_in

  own_page : (chain : Records) × IsPageOf slot chain
  own_page = law.pages page page_in

  link : option_map id_of into.right ≡ Some page
  link = ap (option_map id_of) may.link

  -- the two pages meet
  meet : slot.low ≡ end_of into.high
  meet = (law.rows.linked left page left_in link).2

  left_key : into.low < end_of into.high
  left_key = law.rows.some_key left left_in

  page_key : slot.low < end_of slot.high
  page_key = law.rows.some_key page page_in

  left_ends : into.high ≡ Key slot.low
  left_ends = fence_at_key into.high slot.low (sym meet) (omega (arith, page_key, law.rows.within page page_in))

  apart : page ≢ left
  apart same = omega (arith, ap (λ x. (slot_at table x).low) same, meet, left_key)

  left_inside : left < length table.slots
  left_inside = in_bounds table.slots left left_in

  page_inside : page < length table.slots
  page_inside = in_bounds table.slots page page_in

  abbrev chain : Records
  chain = merged (merging_of slot) own_left.0 own_page.0

  its_chain : wide.chain ≡ Some chain
  its_chain = λ i. merged_chains (merging_of slot) (own_left.1.its_chain i) (own_page.1.its_chain i)

  -- so the record may stand over both chains
  joins : Joins (merging_of slot) (fences own_left.0) (fences own_page.0)
  joins = record {
    left_ends = sym (high_is into own_left.0 own_left.1) ∙ left_ends;
    right_begins = sym (low_is slot own_page.0 own_page.1);
    same_high = sym (high_is slot own_page.0 own_page.1);
    same_right = sym (right_is slot own_page.0 own_page.1);
  }

  -- each half lies on its side of the separator
  halves : {X : Type 0} (xs ys : List (ℕ × X)) → rises (fences own_left.0).low (end_of (fences own_left.0).high) xs ≡ true → rises (fences own_page.0).low (end_of (fences own_page.0).high) ys ≡ true → below slot.low xs ++ from slot.low ys ≡ xs ++ ys
  halves xs ys lower upper =
      let lower_all = below_all (fences own_left.0).low slot.low xs (ap (λ end. rises (fences own_left.0).low end xs) (meet ∙ ap end_of (high_is into own_left.0 own_left.1)) ∙ lower) in
      let upper_all = from_all (end_of (fences own_page.0).high) (fences own_page.0).low slot.low ys (omega (arith, low_is slot own_page.0 own_page.1)) upper in
      λ i. lower_all i ++ upper_all i

  -- and has all pairs
  wide_pairs : pairs_in wide ≡ pairs_in into ++ pairs_in slot
  wide_pairs =
      ap (λ o. unwrap_or (option_map pairs o) []) its_chain
      ∙ halves (pairs own_left.0) (pairs own_page.0) (pairs_rise own_left.0 own_left.1.sound.built) (pairs_rise own_page.0 own_page.1.sound.built)
      ∙ (λ i. sym (pairs_are into own_left.0 own_left.1) i ++ sym (pairs_are slot own_page.0 own_page.1) i)

  wide_page : HasPage wide
  wide_page in_row = (
    chain,
    record {
      its_chain = its_chain;
      sound = record {
        built = (own_left.1.sound.built, own_page.1.sound.built, own_left.1.kind ∙ ap (λ n. eqb n 0) may.beside ∙ sym own_page.1.kind, joins);
        not_deep = omega (arith, may.shallow, own_left.1.depth, own_page.1.depth);
      };
      kind = own_left.1.kind;
      fence = λ i. record { low = low_is into own_left.0 own_left.1 i; high = slot.high; right = slot.right };
      count = omega (
        arith,
        own_left.1.count,
        own_page.1.count,
        ap length (halves (pairs own_left.0) (pairs own_page.0) (pairs_rise own_left.0 own_left.1.sound.built) (pairs_rise own_page.0 own_page.1.sound.built)),
        ap length (halves (routes own_left.0) (routes own_page.0) (routes_rise own_left.0 own_left.1.sound.built) (routes_rise own_page.0 own_page.1.sound.built)),
        length-append (pairs own_left.0) (pairs own_page.0),
        length-append (routes own_left.0) (routes own_page.0),
      );
      depth = omega (arith, own_left.1.depth, own_page.1.depth);
      not_tall = own_left.1.not_tall;
    },
  )

  taken_page : HasPage taken
  taken_page in_row = cc

  wide_routes : route_at (routes_in wide) ≡ (λ k. cond (ltb k slot.low) (route_at (routes_in into) k) (route_at (routes_in slot) k))
  wide_routes =
      ap (λ o. route_at (unwrap_or (option_map routes o) [])) its_chain
      ∙ (λ i. route_at (below slot.low (sym (routes_are into own_left.0 own_left.1) i) ++ from slot.low (sym (routes_are slot own_page.0 own_page.1) i)))
      ∙ chosen_routes (below slot.low (routes_in into) ++ from slot.low (routes_in slot)) (λ k. ltb k slot.low) (λ k. at k (routes_in into)) (λ k. at k (routes_in slot)) (λ k. at-halves slot.low k (routes_in into) (routes_in slot))

  -- what the slots show then
  rows_now : outlines (after table (merge left left_seen page page_seen)).slots ≡ write (write (outlines table.slots) left (outlined.joined (outline into) (outline slot))) page (outlined.gone Merged key_count slot.low slot.level)
  rows_now =
      outlines_of_two table.slots left page wide taken left_inside page_inside
      ∙ (λ i. write (write (outlines table.slots) left (record (outline wide) { routes = wide_routes i })) page (outline taken))

  -- the wide page has the pairs of both, which have no key in common

  wide_share : leaf_pairs wide ≡ leaf_pairs into ++ leaf_pairs slot
  wide_share =
      ap (λ es. cond (is_leaf_in_row into) es []) wide_pairs
      ∙ both (is_leaf_in_row into) (pairs_in into) (pairs_in slot)
      ∙ ap (λ b. leaf_pairs into ++ cond b (pairs_in slot) []) (λ i. both_in i && eqb (may.beside i) 0)
    where
      both_in : is_in_row into.stage ≡ is_in_row slot.stage
      both_in = left_in ∙ sym page_in

  -- no key is in both
  no_key_twice : (k v w : ℕ) → at k (leaf_pairs into) ≡ Some v → at k (leaf_pairs slot) ≡ Some w → ⊥
  no_key_twice k v w one other =
      let a = pair_is_spanned table.slots left k v law.pages one in
      let b = pair_is_spanned table.slots page k w law.pages other in
      omega (arith, a.2, b.2, meet)

  same_keys : (k v : ℕ) → ((at k (leaf_pairs wide) ≡ Some v) ⊎ (at k (leaf_pairs taken) ≡ Some v)) ↔ ((at k (leaf_pairs into) ≡ Some v) ⊎ (at k (leaf_pairs slot) ≡ Some v))
  same_keys k v =
      let in_both = ap (at k) wide_share ∙ at-append (leaf_pairs into) (leaf_pairs slot) k in (
        (λ either. ⊎_elim
            (λ (here : at k (leaf_pairs wide) ≡ Some v). found-append (leaf_pairs into) (leaf_pairs slot) k v (ap (at k) (sym wide_share) ∙ here))
            (λ (none : None ≡ Some v). absurd (cc (none)))
            either),
        (λ either. inl (⊎_elim
            (λ (one : at k (leaf_pairs into) ≡ Some v). in_both ∙ ap (λ o. or_else o (at k (leaf_pairs slot))) one)
            (λ (other : at k (leaf_pairs slot) ≡ Some v). ⊎_elim
            (λ (none : at k (leaf_pairs into) ≡ None). in_both ∙ ap (λ o. or_else o (at k (leaf_pairs slot))) none ∙ other)
            (λ (some : (x : ℕ) × (at k (leaf_pairs into) ≡ Some x)). absurd (no_key_twice k some.0 v some.1 other))
            (option_cases (at k (leaf_pairs into))))
            either)),
      )

  -- no pair is lost or won
  keeps_pairs : KeepsPairs table.slots (set (set table.slots left wide) page taken)
  keeps_pairs = shares_moved table.slots left page wide taken left_inside page_inside apart same_keys
      (omega (arith, ap length wide_share, length-append (leaf_pairs into) (leaf_pairs slot)))

  pub merge_keeps : Booked table → KeptBy table (merge left left_seen page page_seen)
  merge_keeps booked = record {
    lawful = lawful_with table (after table (merge left left_seen page page_seen)) law refl refl
        (subst (λ at. Rows key_count at table.root) (sym rows_now) (merge_keeps_rows key_count (outlines table.slots) table.root left page law.rows left_in may.marked link))
        (good_two table.slots table.config.pages left page wide taken left_inside page_inside wide_page taken_page (in_row_emptied wide may.open_left.in_row) (λ merged. record { open_end = refl; no_link = refl; no_entries = refl; no_records = refl })
        (omega (arith, may.open_left.rises, law.bounds.versions left)) (omega (arith, may.rises, law.bounds.versions page)) (good_slots table law))
        (free-set (set table.slots left wide) table.free page taken (in_row_not_free table.slots table.free page law.free_list page_in)
        (free-set table.slots table.free left wide (in_row_not_free table.slots table.free left law.free_list left_in) law.free_list));
    booked = booked_with table (after table (merge left left_seen page page_seen)) refl keeps_pairs booked;
    map = keeps_pairs.map;
  }
