-- TermAdd keeps the law, the book and the map.
use Rattle.std.proofs.Common.{◌≡◌, ◌≢◌, ℕ, suc, ◌<◌, true, ◌&&◌, cond, eqb, [], length, set, Some, refl, sym, ◌∙◌, ap, subst, arith}
use Rattle.std.specs.Prelude.{option_map}
use Rattle.std.proofs.lemmas.List.{length-set}
use Rattle.bw_keys.specs.Ranges.{key_count}
use Rattle.bw_delta.specs.declared.chain.Delta.TheVariants.{TermAdd}
use Rattle.bw_delta.specs.Entries.{at, put}
use Rattle.bw_delta.specs.Records.{Records, above}
use Rattle.bw_delta.specs.Pairs.{routes}
use Rattle.bw_step.specs.declared.view.Stage.TheVariants.{Posted}
use Rattle.bw_step.specs.Stages.{is_in_row}
use Rattle.bw_step.specs.Proposals.{term_add}
use Rattle.bw_law.specs.Slots.{SlotValue, pairs_in, routes_in}
use Rattle.bw_law.specs.Rows.{Rows}
use Rattle.bw_law.specs.Tables.{TableValue, slot_at, id_of, outline, outlines, IsPageOf, Lawful, is_leaf_in_row, leaf_pairs, Booked}
use Rattle.bw_law.specs.Effects.{with_record, with_stage, pid, after}
use Rattle.bw_law.specs.Laws.{KeptBy}
use Rattle.bw_law.proofs.Outlines as outlined
use Rattle.bw_law.proofs.Outlines.{write}
use Rattle.bw_law.proofs.RowsOfTerms.{term_add_keeps_rows}
use Rattle.bw_law.proofs.Lists.{at-put, length-put}
use Rattle.bw_law.proofs.Accepted.{MayTermAdd}
use Rattle.bw_law.proofs.Slots.{in_bounds, slot_kept, HasPage, in_row_emptied, good_slots, outlines_of_two, good_two, lawful_with}
use Rattle.bw_law.proofs.FreeIds.{free-set, in_row_not_free}
use Rattle.bw_law.proofs.Shares.{KeepsPairs, keeps_pairs_then, same_share, booked_with}
use Rattle.bw_law.proofs.Chains.{routes_are, lies_in, inner_chain, restaged, above_page, pairs_above, routes_above, route_at, chosen_routes}

module _ (table : TableValue) (parent parent_seen child child_seen : ℕ) (law : Lawful table) (may : MayTermAdd table parent parent_seen child child_seen) where
  abbrev over : SlotValue
  over = slot_at table parent

  abbrev under : SlotValue
  under = slot_at table child

  abbrev new_over : SlotValue
  new_over = with_record (TermAdd under.low (pid child)) (suc over.count) over

  abbrev new_under : SlotValue
  new_under = with_stage Posted under

  over_in : is_in_row over.stage ≡ true
  over_in = may.change.open_parent.in_row

  under_in : is_in_row under.stage ≡ true
  under_in = ap is_in_row may.unposted

  -- the page and its chain
  own : (chain : Records) × IsPageOf over chain
  own = law.pages parent over_in

  child_own : (chain : Records) × IsPageOf under chain
  child_own = law.pages child under_in

  inside : parent < length table.slots
  inside = in_bounds table.slots parent over_in

  child_inside : child < length table.slots
  child_inside = in_bounds table.slots child under_in

  apart : child ≢ parent
  apart same = omega (arith, ap (λ x. (slot_at table x).level) same, may.change.above)

  over_page : HasPage new_over
  over_page in_row = (
    above (TermAdd under.low (pid child)) own.0,
    above_page over own.0 own.1 new_over (TermAdd under.low (pid child))
        (inner_chain over own.0 own.1 under.level may.change.above, lies_in over own.0 own.1 under.low may.change.range)
        may.change.shallow refl refl refl own.1.fence
        (omega (arith, own.1.count, length-put under.low (pid child) (routes own.0) (ap (at under.low) (sym (routes_are over own.0 own.1)) ∙ may.no_term))),
  )

  under_page : HasPage new_under
  under_page in_row = (child_own.0, restaged under child_own.0 child_own.1 (suc under.version) Posted)

  -- the routes of the parent then
  new_routes : route_at (routes_in new_over) ≡ (λ k. cond (eqb k under.low) (Some child) (route_at (routes_in over) k))
  new_routes =
      ap route_at (routes_above over own.0 own.1 new_over (TermAdd under.low (pid child)) refl)
      ∙ chosen_routes (put under.low (pid child) (routes_in over)) (λ k. eqb k under.low) (λ _. Some (pid child)) (λ k. at k (routes_in over)) (λ k. at-put under.low k (pid child) (routes_in over))

  -- what the slots show then
  rows_now : outlines (after table (term_add parent parent_seen child child_seen)).slots ≡ write (write (outlines table.slots) parent (outlined.with_term under.low child (outline over))) child (outlined.with_stage Posted (outline under))
  rows_now =
      outlines_of_two table.slots parent child new_over new_under inside child_inside
      ∙ (λ i. write (write (outlines table.slots) parent (record (outline over) { routes = new_routes i })) child (outline new_under))

  -- no pair is lost or won
  keeps_pairs : KeepsPairs table.slots (set (set table.slots parent new_over) child new_under)
  keeps_pairs = keeps_pairs_then table.slots (set table.slots parent new_over) (set (set table.slots parent new_over) child new_under)
      (same_share table.slots parent new_over inside (ap (λ es. cond (is_leaf_in_row over) es []) (pairs_above over own.0 own.1 new_over (TermAdd under.low (pid child)) refl)))
      (same_share (set table.slots parent new_over) child new_under (omega (arith, child_inside, length-set table.slots parent new_over))
      (ap (λ b. cond (b && eqb under.level 0) (pairs_in under) []) (sym under_in) ∙ ap leaf_pairs (sym (slot_kept table.slots parent new_over child apart))))

  pub term_add_keeps : Booked table → KeptBy table (term_add parent parent_seen child child_seen)
  term_add_keeps booked = record {
    lawful = lawful_with table (after table (term_add parent parent_seen child child_seen)) law refl refl
        (subst (λ at. Rows key_count at table.root) (sym rows_now)
        (term_add_keeps_rows key_count (outlines table.slots) table.root parent child law.rows over_in may.unposted may.change.above may.change.range (ap (option_map id_of) may.no_term)))
        (good_two table.slots table.config.pages parent child new_over new_under inside child_inside over_page under_page (in_row_emptied new_over may.change.open_parent.in_row) (in_row_emptied new_under refl)
        (omega (arith, may.change.open_parent.rises, law.bounds.versions parent)) (omega (arith, may.change.child_rises, law.bounds.versions child)) (good_slots table law))
        (free-set (set table.slots parent new_over) table.free child new_under (in_row_not_free table.slots table.free child law.free_list under_in)
        (free-set table.slots table.free parent new_over (in_row_not_free table.slots table.free parent law.free_list over_in) law.free_list));
    booked = booked_with table (after table (term_add parent parent_seen child child_seen)) refl keeps_pairs booked;
    map = keeps_pairs.map;
  }
