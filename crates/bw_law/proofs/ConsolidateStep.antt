-- Consolidate keeps the law, the book and the map.
use Rattle.std.proofs.Common.{◌≡◌, ℕ, ◌<◌, cond, [], length, set, refl, sym, ◌∙◌, ap, subst, arith}
use Rattle.bw_delta.specs.Pages.{Page, IsPage}
use Rattle.bw_delta.specs.Records.{Records, bare}
use Rattle.bw_delta.specs.Fence.{page_fences}
use Rattle.bw_delta.specs.Pairs.{pairs, pairs_listed, routes, routes_listed}
use Rattle.bw_delta.specs.Sound.{page_for}
use Rattle.bw_delta.proofs.Stands.{page_for_is_page}
use Rattle.bw_step.specs.Proposals.{consolidate}
use Rattle.bw_law.specs.Slots.{SlotValue}
use Rattle.bw_law.specs.Tables.{TableValue, slot_at, outline, IsPageOf, Lawful, is_leaf_in_row, Booked}
use Rattle.bw_law.specs.Effects.{consolidated, after}
use Rattle.bw_law.specs.Laws.{KeptBy}
use Rattle.bw_law.proofs.Accepted.{MayConsolidate}
use Rattle.bw_law.proofs.Slots.{in_bounds, rows_kept, HasPage, in_row_emptied, good_slots, good-set, lawful_with}
use Rattle.bw_law.proofs.FreeIds.{free-set, in_row_not_free}
use Rattle.bw_law.proofs.Shares.{KeepsPairs, same_share, booked_with}
use Rattle.bw_law.proofs.Chains.{chain_is, pairs_are, routes_are, listed_count, bare_page, route_at}
use Rattle.bw_law.proofs.Bases.{pairs_of_base, routes_of_base}

module _ (table : TableValue) (page seen : ℕ) (base : Page) (law : Lawful table) (may : MayConsolidate table page seen base) where
  abbrev slot : SlotValue
  slot = slot_at table page

  abbrev new : SlotValue
  new = consolidated base slot

  -- the page and its chain
  own : (chain : Records) × IsPageOf slot chain
  own = law.pages page may.open_page.in_row

  inside : page < length table.slots
  inside = in_bounds table.slots page may.open_page.in_row

  -- the base is the page that the chain stands for
  base_is : base ≡ page_for own.0
  base_is = may.same ∙ ap page_for (chain_is slot own.0 own.1)

  same_pairs : pairs_listed base.listed ≡ pairs own.0
  same_pairs = ap (λ (p : Page). pairs_listed p.listed) base_is ∙ pairs_of_base own.0 own.1.sound

  same_routes : routes_listed base.listed ≡ routes own.0
  same_routes = ap (λ (p : Page). routes_listed p.listed) base_is ∙ routes_of_base own.0 own.1.sound

  new_page : HasPage new
  new_page in_row = (
    bare base,
    bare_page new base (subst IsPage (sym base_is) (page_for_is_page own.0 own.1.sound)) refl may.kind (own.1.fence ∙ ap page_fences (sym base_is))
        (omega (arith, own.1.count, listed_count base.listed, ap length same_pairs, ap length same_routes)) refl own.1.not_tall,
  )

  same_outline : outline new ≡ outline slot
  same_outline = λ i. record (outline slot) { routes = route_at ((same_routes ∙ sym (routes_are slot own.0 own.1)) i) }

  -- no pair is lost or won
  keeps_pairs : KeepsPairs table.slots (set table.slots page new)
  keeps_pairs = same_share table.slots page new inside (ap (λ es. cond (is_leaf_in_row slot) es []) (same_pairs ∙ sym (pairs_are slot own.0 own.1)))

  pub consolidate_keeps : Booked table → KeptBy table (consolidate page seen base)
  consolidate_keeps booked = record {
    lawful = lawful_with table (after table (consolidate page seen base)) law refl refl
        (rows_kept table.slots table.root page new inside same_outline law.rows)
        (good-set table.slots table.config.pages page new inside new_page (in_row_emptied new may.open_page.in_row) (omega (arith, may.open_page.rises, law.bounds.versions page)) (good_slots table law))
        (free-set table.slots table.free page new (in_row_not_free table.slots table.free page law.free_list may.open_page.in_row) law.free_list);
    booked = booked_with table (after table (consolidate page seen base)) refl keeps_pairs booked;
    map = keeps_pairs.map;
  }
