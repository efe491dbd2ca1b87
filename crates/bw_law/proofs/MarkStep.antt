-- Mark keeps the law, the book and the map.
use Rattle.std.proofs.Common.{◌≡◌, ℕ, ◌<◌, true, ◌&&◌, cond, eqb, [], length, set, refl, sym, ◌∙◌, ap, subst, arith}
use Rattle.bw_keys.specs.Ranges.{key_count}
use Rattle.bw_delta.specs.declared.chain.Delta.TheVariants.{Remove}
use Rattle.bw_delta.specs.Records.{Records, above}
use Rattle.bw_step.specs.declared.view.Stage.TheVariants.{Marked}
use Rattle.bw_step.specs.Stages.{is_in_row}
use Rattle.bw_step.specs.Proposals.{mark}
use Rattle.bw_law.specs.Slots.{SlotValue, pairs_in}
use Rattle.bw_law.specs.Rows.{Rows}
use Rattle.bw_law.specs.Tables.{TableValue, slot_at, outline, outlines, IsPageOf, Lawful, is_leaf_in_row, Booked}
use Rattle.bw_law.specs.Effects.{marked, after}
use Rattle.bw_law.specs.Laws.{KeptBy}
use Rattle.bw_law.proofs.Outlines as outlined
use Rattle.bw_law.proofs.Outlines.{write}
use Rattle.bw_law.proofs.RowsOfTerms.{mark_keeps_rows}
use Rattle.bw_law.proofs.Accepted.{MayMark}
use Rattle.bw_law.proofs.Slots.{in_bounds, outlines-set, HasPage, in_row_emptied, good_slots, good-set, lawful_with}
use Rattle.bw_law.proofs.FreeIds.{free-set, in_row_not_free}
use Rattle.bw_law.proofs.Shares.{KeepsPairs, same_share, booked_with}
use Rattle.bw_law.proofs.Chains.{above_page, pairs_above, routes_above, route_at}

module _ (table : TableValue) (page seen parent : ℕ) (law : Lawful table) (may : MayMark table page seen parent) where
  abbrev slot : SlotValue
  slot = slot_at table page

  abbrev new : SlotValue
  new = marked slot

  in_row : is_in_row slot.stage ≡ true
  in_row = ap is_in_row may.posted

  -- the page and its chain
  own : (chain : Records) × IsPageOf slot chain
  own = law.pages page in_row

  inside : page < length table.slots
  inside = in_bounds table.slots page in_row

  new_page : HasPage new
  new_page _ = (
    above Remove own.0,
    above_page slot own.0 own.1 new Remove tt (omega (arith, may.shallow)) refl refl refl own.1.fence own.1.count,
  )

  -- what the slots show then
  rows_now : outlines (set table.slots page new) ≡ write (outlines table.slots) page (outlined.with_stage Marked (outline slot))
  rows_now =
      outlines-set table.slots page new inside
      ∙ (λ i. write (outlines table.slots) page (record (outline slot) { stage = Marked; routes = route_at (routes_above slot own.0 own.1 new Remove refl i) }))

  -- no pair is lost or won
  keeps_pairs : KeepsPairs table.slots (set table.slots page new)
  keeps_pairs = same_share table.slots page new inside
      (ap (λ b. cond (b && eqb slot.level 0) (pairs_in new) []) (sym in_row) ∙ ap (λ es. cond (is_leaf_in_row slot) es []) (pairs_above slot own.0 own.1 new Remove refl))

  pub mark_keeps : Booked table → KeptBy table (mark page seen parent)
  mark_keeps booked = record {
    lawful = lawful_with table (after table (mark page seen parent)) law refl refl
        (subst (λ at. Rows key_count at table.root) (sym rows_now) (mark_keeps_rows key_count (outlines table.slots) table.root page parent law.rows may.posted may.parent_in may.above may.range may.not_first))
        (good-set table.slots table.config.pages page new inside new_page (in_row_emptied new refl) (omega (arith, may.rises, law.bounds.versions page)) (good_slots table law))
        (free-set table.slots table.free page new (in_row_not_free table.slots table.free page law.free_list in_row) law.free_list);
    booked = booked_with table (after table (mark page seen parent)) refl keeps_pairs booked;
    map = keeps_pairs.map;
  }
