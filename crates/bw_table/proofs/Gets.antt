-- A search that goes from page to page ends at the leaf whose range holds the key, which has what the map has there.
use Rattle.std.proofs.Common.{◌≡◌, ℕ, ◌+◌, ◌<◌, Bool, true, false, cond, List, Option, Some, None, refl, sym, ◌∙◌, ap, subst, arith}
use Rattle.std.specs.Prelude.{◌==◌, nat_le, nat_lt, option_map}
use Rattle.std.proofs.lemmas.Bool.Decides.{nat_tests}
use Rattle.bw_keys.specs.declared.page.Pid.{Pid}
use Rattle.bw_keys.specs.Ranges.{key_count, end_of}
use Rattle.bw_delta.specs.Entries.{at, last_upto, last_below}
use Rattle.bw_step.specs.declared.place.Place.{Place}
use Rattle.bw_step.specs.declared.place.Go.{Go}
use Rattle.bw_step.specs.Stages.{is_in_row}
use Rattle.bw_law.specs.Laws.{IsLeafOf}
use Rattle.bw_law.specs.Slots.{SlotValue, slot_in, pairs_in, routes_in, is_merged}
use Rattle.bw_law.specs.Tables.{TableValue, slot_at, Lawful}
use Rattle.bw_law.proofs.Facts.{range_is_not_empty, range_is_among_keys, leaf_decides}
use Rattle.bw_chain.proofs.Lasts.{last_below-bound}
use Rattle.bw_table.specs.SlotFacts.{HasSoundChain}
use Rattle.bw_table.specs.Views.{view_of}
use Rattle.bw_table.specs.Visits.{is_there, live_routes, way_on, next_by}
use Rattle.bw_table.specs.Gets.{IsMapAt, IsUpTo, LeadsOn, next_page, live_child, page_of}
use Rattle.bw_table.proofs.LiveRoutes.{dead_is_passed, live_is_last, none_is_live}
use Rattle.bw_table.proofs.Ways.{IsProper, next_is_proper, found_leaf}

-- the leaf has what the map has
pub leaf_has : (table : TableValue) (key page : ℕ) (slot : SlotValue) (found : Option ℕ) → Lawful table → IsLeafOf table key page → slot ≡ slot_at table page → found ≡ at key (pairs_in slot) → IsMapAt table key found
leaf_has table key page slot found law leaf its_slot is value =
    let decides = leaf_decides table law page key value leaf.in_row leaf.is_leaf leaf.spans in
    let same : found ≡ at key (pairs_in (slot_at table page)) = is ∙ ap (λ (s : SlotValue). at key (pairs_in s)) its_slot in
    ((λ here. decides.1 (sym same ∙ here)), (λ maps. same ∙ decides.0 maps))

module _ (table : TableValue) (law : Lawful table) (key : ℕ) (is_key : key < key_count) (page : Pid) (on : IsUpTo table key page.0) where
  abbrev slot : SlotValue
  slot = slot_at table page.0

  abbrev place : Place
  place = record { pid = page; level = slot.level; from = slot.low }

  there : is_there slot place key 0 ≡ true
  there = grind (arith, nat_tests, on.in_row, on.low_upto)

  abbrev go : Go
  go = way_on table.slots page slot key 0

  proper : IsProper table place key 0 go
  proper = next_is_proper table place key 0 slot (next_by table.slots page slot key go) law is_key refl there refl

  -- to the right
  right_leads : nat_le (end_of slot.high) key ≡ true → (right : Option Pid) → slot.right ≡ right → LeadsOn table key page.0 right
  right_leads past None none =
      let gone = rw (past, none) at proper in
      absurd (gone.gone (record { in_row = on.in_row; level = refl; goal_below = omega arith; low_from = omega arith; low_upto = on.low_upto }))
  right_leads past (Some right) is =
      let next = rw (past, is) at proper in
      let here = range_is_not_empty table law page.0 on.in_row in
      let next_here = range_is_not_empty table law right.0 next.stays.in_row in
      let within = range_is_among_keys table law right.0 next.stays.in_row in
      record {
        there = record { in_row = next.stays.in_row; low_upto = next.stays.low_upto };
        nearer = omega (arith, next.stays.level, next.stays.low_from, here, next_here, within);
        leaf = tt;
      }

  -- nowhere, from a leaf
  leaf_ends : nat_le (end_of slot.high) key ≡ false → (slot.level == 0) ≡ true → LeadsOn table key page.0 None
  leaf_ends inside leaf =
      let low : nat_lt 0 slot.level ≡ false = grind (arith, nat_tests) in
      let ends = rw (inside, low) at proper in
      record { there = tt; nearer = tt; leaf = found_leaf table place key (view_of page slot) ends.found }

  -- down by a live route
  route_leads : nat_le (end_of slot.high) key ≡ false → (slot.level == 0) ≡ false → (route : Option (ℕ × Pid)) → last_upto key (live_routes table.slots slot) ≡ route
      → LeadsOn table key page.0 (option_map page_of route)
  route_leads inside inner None none =
      let high : nat_lt 0 slot.level ≡ true = grind (arith, nat_tests) in
      let gone = rw (inside, high, none) at proper in
      absurd (gone.gone (record { in_row = on.in_row; level = refl; goal_below = omega arith; low_from = omega arith; low_upto = on.low_upto }))
  route_leads inside inner (Some route) is =
      let high : nat_lt 0 slot.level ≡ true = grind (arith, nat_tests) in
      let above : 0 < slot.level = grind (arith, nat_tests) in
      let next = rw (inside, high, is) at proper in
      record {
        there = record { in_row = next.stays.in_row; low_upto = next.stays.low_upto };
        nearer = omega (arith, next.stays.level, above);
        leaf = tt;
      }

  by_level : nat_le (end_of slot.high) key ≡ false → (leaf : Bool) → (slot.level == 0) ≡ leaf → LeadsOn table key page.0 (cond leaf None (live_child table.slots slot key))
  by_level inside true is = leaf_ends inside is
  by_level inside false is = route_leads inside is (last_upto key (live_routes table.slots slot)) refl

  by_fence : (past : Bool) → nat_le (end_of slot.high) key ≡ past → LeadsOn table key page.0 (cond past slot.right (cond (slot.level == 0) None (live_child table.slots slot key)))
  by_fence true is = right_leads is slot.right refl
  by_fence false is = by_level is (slot.level == 0) refl

  pub page_leads_on : (own : SlotValue) (next : Option Pid) → own ≡ slot → next ≡ next_page table.slots own key → LeadsOn table key page.0 next
  page_leads_on own next same is =
      let leads : next ≡ next_page table.slots slot key = is ∙ ap (λ (s : SlotValue). next_page table.slots s key) same in
      subst (LeadsOn table key page.0) (sym leads) (by_fence (nat_le (end_of slot.high) key) refl)

-- the greatest route that is left, where those that were passed lead to merged pages
pub record IsGreatestLeft (slots : List SlotValue) (slot : SlotValue) (key : ℕ) (route : Option (ℕ × Pid)) : Type 0 where
  pub bound : ℕ
  pub left : route ≡ last_below bound (routes_in slot)
  pub passed : last_upto key (live_routes slots slot) ≡ last_below bound (live_routes slots slot)

abbrev pub routes_left : Option (ℕ × Pid) → ℕ
routes_left None = 0
routes_left (Some route) = route.0 + 1

-- a route of a page in a row, the greatest that is left
module _ (slots : List SlotValue) (slot : SlotValue) (key : ℕ) (in_row : is_in_row slot.stage ≡ true) (sound : HasSoundChain slot) (route : Option (ℕ × Pid)) (left : IsGreatestLeft slots slot key route) where
  -- it is the one to go down by where it is live
  pub live_is_greatest : (separator : ℕ) (child : Pid) → route ≡ Some (separator, child) → is_merged (slot_in slots child.0).stage ≡ false → Some child ≡ live_child slots slot key
  live_is_greatest separator child is live = sym (ap (option_map page_of) (left.passed ∙ live_is_last slots slot in_row sound left.bound (separator, child) (sym left.left ∙ is) live))

  -- and is passed where it isn't
  pub dead_is_left_out : (separator : ℕ) (child : Pid) (next : Option (ℕ × Pid)) → route ≡ Some (separator, child) → is_merged (slot_in slots child.0).stage ≡ true
      → next ≡ last_below separator (routes_in slot) → IsGreatestLeft slots slot key next
  dead_is_left_out separator child next is dead next_is =
      record { bound = separator; left = next_is; passed = left.passed ∙ dead_is_passed slots slot in_row sound left.bound (separator, child) (sym left.left ∙ is) dead }

  pub no_child_is_live : route ≡ None → None ≡ live_child slots slot key
  no_child_is_live is = sym (ap (option_map page_of) (left.passed ∙ none_is_live slots slot in_row sound left.bound (sym left.left ∙ is)))

pub fewer_routes_left : (slot : SlotValue) (separator : ℕ) (child : Pid) (route next : Option (ℕ × Pid)) → route ≡ Some (separator, child) → next ≡ last_below separator (routes_in slot)
    → routes_left next < routes_left route
fewer_routes_left slot separator child route None is next_is = rw is (omega arith)
fewer_routes_left slot separator child route (Some next) is next_is = rw is (omega (arith, last_below-bound separator next (routes_in slot) (sym next_is)))
