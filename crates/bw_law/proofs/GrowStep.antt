-- Grow keeps the law, the book and the map.
use Rattle.std.proofs.Common.{◌≡◌, ◌≢◌, ℕ, suc, ◌+◌, ◌<◌, true, ◌&&◌, cond, eqb, [], length, set, Some, None, refl, sym, ◌∙◌, ap, subst, arith}
use Rattle.std.proofs.Math.Path.{fun_ext}
use Rattle.std.proofs.lemmas.List.{length-set}
use Rattle.std.proofs.lemmas.Bool.{ne_eqb}
use Rattle.std.proofs.lemmas.Bool.Decides.{nat_tests}
use Rattle.bw_keys.specs.Ranges.{key_count}
use Rattle.bw_delta.specs.Pages.{Page, IsPage, lists_pairs}
use Rattle.bw_delta.specs.Records.{Records, bare}
use Rattle.bw_delta.specs.Fence.{page_fences}
use Rattle.bw_delta.specs.Pairs.{routes_listed}
use Rattle.bw_step.specs.declared.view.Stage.TheVariants.{Free, Posted}
use Rattle.bw_step.specs.Stages.{is_in_row}
use Rattle.bw_step.specs.Proposals.{grow}
use Rattle.bw_law.specs.Slots.{SlotValue, slot_in, pairs_in, routes_in}
use Rattle.bw_law.specs.Rows.{Rows}
use Rattle.bw_law.specs.Tables.{TableValue, slot_at, outline, outlines, IsPageOf, Lawful, leaf_pairs, Booked}
use Rattle.bw_law.specs.Refusals.{new_id}
use Rattle.bw_law.specs.Effects.{with_stage, grown_root, after}
use Rattle.bw_law.specs.Laws.{KeptBy}
use Rattle.bw_law.proofs.Outlines as outlined
use Rattle.bw_law.proofs.Outlines.{write}
use Rattle.bw_law.proofs.RowsOfTerms.{grow_keeps_rows, grown_child_is_not_first}
use Rattle.bw_law.proofs.Accepted.{MayGrow}
use Rattle.bw_law.proofs.Slots.{in_bounds, slot_kept, HasPage, in_row_emptied, good_slots, outlines_of_two, good_two, lawful_with}
use Rattle.bw_law.proofs.FreeIds.{last_is_among, free-set, in_row_not_free, free_taken}
use Rattle.bw_law.proofs.Shares.{no_pairs_outside, KeepsPairs, keeps_pairs_then, same_share, booked_with}
use Rattle.bw_law.proofs.Chains.{restaged, bare_page, route_at}

module _ (table : TableValue) (child seen : ℕ) (base : Page) (law : Lawful table) (may : MayGrow table child seen base) where
  abbrev under : SlotValue
  under = slot_at table child

  abbrev root : SlotValue
  root = slot_at table table.root

  abbrev new : ℕ
  new = new_id table

  abbrev new_under : SlotValue
  new_under = with_stage Posted under

  abbrev new_root : SlotValue
  new_root = grown_root (slot_at table new).version root.level base

  under_in : is_in_row under.stage ≡ true
  under_in = ap is_in_row may.unposted

  -- the page and its chain
  own : (chain : Records) × IsPageOf under chain
  own = law.pages child under_in

  child_inside : child < length table.slots
  child_inside = in_bounds table.slots child under_in

  new_free : (new < length table.slots) × ((slot_at table new).stage ≡ Free)
  new_free = law.free_list.are_free new (last_is_among table.free new may.room)

  apart : new ≢ child
  apart same = cc (ap (λ x. (slot_at table x).stage) same, new_free.1, may.unposted)

  -- the child isn't the first of its row
  not_first : under.low ≢ 0
  not_first = grown_child_is_not_first key_count (outlines table.slots) table.root child new law.rows may.unposted may.beside new_free.1

  below_top : under.low < key_count
  below_top = omega (arith, law.rows.some_key child under_in, law.rows.within child under_in)

  -- the base is a page
  base_is_page : IsPage base
  base_is_page = subst IsPage (sym may.same) (grind (arith, nat_tests, not_first, below_top))

  under_page : HasPage new_under
  under_page in_row = (own.0, restaged under own.0 own.1 (suc under.version) Posted)

  root_page_is : HasPage new_root
  root_page_is in_row = (
    bare base,
    bare_page new_root base base_is_page refl (ap (λ (p : Page). lists_pairs p.listed) may.same ∙ sym (ne_eqb (suc root.level) 0 (omega arith))) (ap page_fences (sym may.same)) refl refl (omega (arith, may.not_tall)),
  )

  -- the routes of the parent then
  new_routes : route_at (routes_in new_root) ≡ (λ k. cond (eqb k 0) (Some table.root) (cond (eqb k under.low) (Some child) None))
  new_routes = ap (λ (p : Page). route_at (routes_listed p.listed)) may.same ∙ fun_ext (λ k. grind (arith, nat_tests))

  -- what the slots show then
  rows_now : outlines (after table (grow child seen base)).slots ≡ write (write (outlines table.slots) child (outlined.with_stage Posted (outline under))) new (outlined.over_two key_count root.level table.root under.low child)
  rows_now =
      outlines_of_two table.slots child new new_under new_root child_inside new_free.0
      ∙ (λ i. write (write (outlines table.slots) child (outline new_under)) new (record { stage = Posted; low = 0; high = key_count; right = None; level = suc root.level; routes = new_routes i }))
      ∙ ap (λ level. write (write (outlines table.slots) child (outline new_under)) new (record { stage = Posted; low = 0; high = key_count; right = None; level = level; routes = λ k. cond (eqb k 0) (Some table.root) (cond (eqb k under.low) (Some child) None) })) next_level
    where
      next_level : suc root.level ≡ root.level + 1
      next_level = omega arith

  root_share : leaf_pairs new_root ≡ leaf_pairs (slot_in (set table.slots child new_under) new)
  root_share =
      ap (λ b. cond b (pairs_in new_root) []) (ne_eqb (suc root.level) 0 (omega arith))
      ∙ sym (ap leaf_pairs (slot_kept table.slots child new_under new apart) ∙ no_pairs_outside (slot_at table new) (ap is_in_row new_free.1))

  -- no pair is lost or won
  keeps_pairs : KeepsPairs table.slots (set (set table.slots child new_under) new new_root)
  keeps_pairs = keeps_pairs_then table.slots (set table.slots child new_under) (set (set table.slots child new_under) new new_root)
      (same_share table.slots child new_under child_inside (ap (λ b. cond (b && eqb under.level 0) (pairs_in under) []) (sym under_in)))
      (same_share (set table.slots child new_under) new new_root (omega (arith, new_free.0, length-set table.slots child new_under)) root_share)

  pub grow_keeps : Booked table → KeptBy table (grow child seen base)
  grow_keeps booked = record {
    lawful = lawful_with table (after table (grow child seen base)) law refl refl
        (subst (λ at. Rows key_count at new) (sym rows_now) (grow_keeps_rows key_count (outlines table.slots) table.root child new law.rows may.unposted may.beside new_free.1))
        (good_two table.slots table.config.pages child new new_under new_root child_inside new_free.0 under_page root_page_is (in_row_emptied new_under refl) (in_row_emptied new_root refl)
        (omega (arith, may.rises, law.bounds.versions child)) (omega (arith, may.new_rises, law.bounds.versions new)) (good_slots table law))
        (free_taken (set table.slots child new_under) table.free new new_root may.room
        (free-set table.slots table.free child new_under (in_row_not_free table.slots table.free child law.free_list under_in) law.free_list));
    booked = booked_with table (after table (grow child seen base)) refl keeps_pairs booked;
    map = keeps_pairs.map;
  }
