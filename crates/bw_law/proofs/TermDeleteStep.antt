-- TermDelete keeps the law, the book and the map.
use Rattle.std.proofs.Common.{◌≡◌, ◌≢◌, ℕ, suc, ◌-◌, ◌<◌, true, false, cond, eqb, [], ◌∷◌, ◌++◌, length, set, Some, None, refl, sym, ◌∙◌, ap, subst, arith}
use Rattle.std.proofs.lemmas.List.{length-set}
use Rattle.bw_keys.specs.declared.page.Pid.{Pid}
use Rattle.bw_keys.specs.Ranges.{key_count, end_of}
use Rattle.bw_delta.specs.declared.chain.Delta.TheVariants.{TermDelete}
use Rattle.bw_delta.specs.Entries.{at, without}
use Rattle.bw_delta.specs.Records.{Records, above}
use Rattle.bw_delta.specs.Fence.{fences}
use Rattle.bw_delta.specs.Pairs.{routes}
use Rattle.bw_delta.proofs.Stands.{routes_rise}
use Rattle.bw_step.specs.declared.view.Stage.TheVariants.{Free}
use Rattle.bw_step.specs.Stages.{is_in_row, is_leaving}
use Rattle.bw_step.specs.Proposals.{term_delete}
use Rattle.bw_law.specs.Slots.{SlotValue, free_slot, slot_in, routes_in, last_number}
use Rattle.bw_law.specs.Rows.{Rows}
use Rattle.bw_law.specs.Walks.{IsAmong}
use Rattle.bw_law.specs.Tables.{TableValue, slot_at, outline, outlines, IsPageOf, FreeList, Lawful, is_leaf_in_row, leaf_pairs, Booked}
use Rattle.bw_law.specs.Effects.{with_record, freed, after}
use Rattle.bw_law.specs.Laws.{KeptBy}
use Rattle.bw_law.proofs.Outlines as outlined
use Rattle.bw_law.proofs.Outlines.{write}
use Rattle.bw_law.proofs.RowsOfTerms.{term_delete_keeps_rows}
use Rattle.bw_law.proofs.Lists.{at-without, length-without}
use Rattle.bw_law.proofs.Accepted.{MayTermDelete}
use Rattle.bw_law.proofs.Slots.{used_in_bounds, in_bounds, slot_kept, HasPage, in_row_emptied, good_slots, outlines_of_two, good_two, lawful_with}
use Rattle.bw_law.proofs.FreeIds.{free-set, in_row_not_free, free_returned}
use Rattle.bw_law.proofs.Shares.{no_pairs_outside, KeepsPairs, keeps_pairs_then, same_share, booked_with}
use Rattle.bw_law.proofs.Chains.{routes_are, lies_in, inner_chain, inner_pairs_none, above_page, pairs_above, routes_above, some_route, route_at, chosen_routes}

module _ (table : TableValue) (parent parent_seen child child_seen : ℕ) (law : Lawful table) (may : MayTermDelete table parent parent_seen child child_seen) where
  abbrev over : SlotValue
  over = slot_at table parent

  abbrev under : SlotValue
  under = slot_at table child

  abbrev new_over : SlotValue
  new_over = with_record (TermDelete under.low) (over.count - 1) over

  abbrev new_under : SlotValue
  new_under = free_slot (suc under.version)

  over_in : is_in_row over.stage ≡ true
  over_in = may.change.open_parent.in_row

  -- the page and its chain
  own : (chain : Records) × IsPageOf over chain
  own = law.pages parent over_in

  inside : parent < length table.slots
  inside = in_bounds table.slots parent over_in

  child_inside : child < length table.slots
  child_inside = used_in_bounds table.slots child (λ free. cc (free, may.merged))

  apart : child ≢ parent
  apart same = omega (arith, ap (λ x. (slot_at table x).level) same, may.change.above)

  not_free : IsAmong table.free child → ⊥
  not_free among = cc (may.merged, (law.free_list.are_free child among).1)

  -- the parent routes the child at its low
  pub routed : (p : Pid) × (at under.low (routes_in over) ≡ Some p) × (p.0 ≡ child)
  routed = some_route (at under.low (routes_in over)) child
      (outlined.leaving_is_routed key_count (outlines table.slots) table.root law.rows parent child over_in (ap is_leaving may.merged) may.change.above may.change.range)

  -- the parent has one route less
  fewer : suc (length (without under.low (routes own.0))) ≡ length (routes own.0)
  fewer = length-without (fences own.0).low (end_of (fences own.0).high) under.low routed.0 (routes own.0) (routes_rise own.0 own.1.sound.built) (ap (at under.low) (sym (routes_are over own.0 own.1)) ∙ routed.1)

  over_page : HasPage new_over
  over_page in_row = (
    above (TermDelete under.low) own.0,
    above_page over own.0 own.1 new_over (TermDelete under.low)
        (inner_chain over own.0 own.1 under.level may.change.above, lies_in over own.0 own.1 under.low may.change.range)
        may.change.shallow refl refl refl own.1.fence (omega (arith, own.1.count, ap length (inner_pairs_none over own.0 own.1 under.level may.change.above), fewer)),
  )

  under_page : HasPage new_under
  under_page in_row = cc

  -- the routes of the parent then
  new_routes : route_at (routes_in new_over) ≡ (λ k. cond (eqb k under.low) None (route_at (routes_in over) k))
  new_routes =
      ap route_at (routes_above over own.0 own.1 new_over (TermDelete under.low) refl)
      ∙ chosen_routes (without under.low (routes_in over)) (λ k. eqb k under.low) (λ _. None) (λ k. at k (routes_in over)) (λ k. at-without under.low k (routes_in over))

  -- what the slots show then
  rows_now : outlines (after table (term_delete parent parent_seen child child_seen)).slots ≡ write (write (outlines table.slots) parent (outlined.without_term under.low (outline over))) child (outlined.gone Free key_count 0 0)
  rows_now =
      outlines_of_two table.slots parent child new_over new_under inside child_inside
      ∙ (λ i. write (write (outlines table.slots) parent (record (outline over) { routes = new_routes i })) child (outlined.gone Free key_count 0 0))

  child_share : leaf_pairs new_under ≡ leaf_pairs (slot_in (set table.slots parent new_over) child)
  child_share = sym (ap leaf_pairs (slot_kept table.slots parent new_over child apart) ∙ no_pairs_outside under (ap is_in_row may.merged))

  -- no pair is lost or won
  keeps_pairs : KeepsPairs table.slots (set (set table.slots parent new_over) child new_under)
  keeps_pairs = keeps_pairs_then table.slots (set table.slots parent new_over) (set (set table.slots parent new_over) child new_under)
      (same_share table.slots parent new_over inside (ap (λ es. cond (is_leaf_in_row over) es []) (pairs_above over own.0 own.1 new_over (TermDelete under.low) refl)))
      (same_share (set table.slots parent new_over) child new_under (omega (arith, child_inside, length-set table.slots parent new_over)) child_share)

  before : FreeList (set table.slots parent new_over) table.free
  before = free-set table.slots table.free parent new_over (in_row_not_free table.slots table.free parent law.free_list over_in) law.free_list

  -- the child's id goes to the free list, unless its version is used up
  free_now : FreeList (set (set table.slots parent new_over) child new_under) (freed table.free child (suc under.version))
  free_now = elim (eqb (suc under.version) last_number) as (λ b. FreeList (set (set table.slots parent new_over) child new_under) (cond b table.free (table.free ++ child ∷ []))) [
    | true ↦ free-set (set table.slots parent new_over) table.free child new_under not_free before
    | false ↦ free_returned (set table.slots parent new_over) table.free child new_under (omega (arith, child_inside, length-set table.slots parent new_over)) not_free refl before
  ]

  pub term_delete_keeps : Booked table → KeptBy table (term_delete parent parent_seen child child_seen)
  term_delete_keeps booked = record {
    lawful = lawful_with table (after table (term_delete parent parent_seen child child_seen)) law refl refl
        (subst (λ at. Rows key_count at table.root) (sym rows_now)
        (term_delete_keeps_rows key_count (outlines table.slots) table.root parent child law.rows over_in may.merged may.change.above may.change.range))
        (good_two table.slots table.config.pages parent child new_over new_under inside child_inside over_page under_page (in_row_emptied new_over may.change.open_parent.in_row) (λ merged. cc)
        (omega (arith, may.change.open_parent.rises, law.bounds.versions parent)) (omega (arith, may.change.child_rises, law.bounds.versions child)) (good_slots table law))
        free_now;
    booked = booked_with table (after table (term_delete parent parent_seen child child_seen)) refl keeps_pairs booked;
    map = keeps_pairs.map;
  }
