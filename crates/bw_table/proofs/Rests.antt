-- A search that stops at a page in the middle of a split or a merge.
use Rattle.std.proofs.Common.{◌≡◌, ℕ, suc, ◌+◌, ◌<◌, Bool, true, false, cond, Option, Some, None, refl, sym, ◌∙◌, ap, subst, arith}
use Rattle.std.specs.Prelude.{◌==◌, nat_le, option_map, unwrap_or}
use Rattle.bw_keys.specs.declared.page.Pid.{Pid}
use Rattle.bw_keys.specs.Ranges.{key_count, end_of}
use Rattle.bw_delta.specs.Entries.{last_upto}
use Rattle.bw_step.specs.declared.view.Stage.{Stage}
use Rattle.bw_step.specs.declared.view.Stage.TheVariants.{Free, Posted, Unposted, Marked, Merged}
use Rattle.bw_step.specs.Stages.{is_in_row}
use Rattle.bw_law.specs.Laws.{IsLeafOf}
use Rattle.bw_law.specs.Slots.{SlotValue, slot_in, routes_in, is_merged}
use Rattle.bw_law.specs.Tables.{TableValue, slot_at, Lawful}
use Rattle.bw_law.proofs.Facts.{here_is_inside}
use Rattle.bw_law.proofs.Slots.{used_in_bounds}
use Rattle.bw_table.specs.Gets.{IsUpTo, LeadsOn, live_child, page_of, way_left}
use Rattle.bw_table.specs.Rests.{IsLedTo, is_unfinished, next_by_routes, rest_left}
use Rattle.bw_table.proofs.Gets.{IsGreatestLeft, live_is_greatest, no_child_is_live, page_leads_on}
use Rattle.bw_table.proofs.Whole.{has_sound_chain}

-- where a search has come to a page that isn't unfinished, it can go on from it, and the page is posted
record IsAtRest (table : TableValue) (key page : ℕ) : Type 0 where
  on : IsUpTo table key page
  posted : (slot_at table page).stage ≡ Posted

led_is_at_rest : (table : TableValue) (key page : ℕ) → IsLedTo table key page → (stage : Stage) → (slot_at table page).stage ≡ stage → is_unfinished stage ≡ false → IsAtRest table key page
led_is_at_rest table key page led Free is rest = let on = led.on (ap is_merged is) in cc (on.in_row, ap is_in_row is)
led_is_at_rest table key page led Posted is rest = record { on = led.on (ap is_merged is); posted = is }
led_is_at_rest table key page led Unposted is rest = cc
led_is_at_rest table key page led Marked is rest = cc
led_is_at_rest table key page led Merged is rest = cc

-- a page that a search can go on from is led to
pub led_by : (table : TableValue) (law : Lawful table) (key page : ℕ) → IsUpTo table key page → IsLedTo table key page
led_by table law key page on = record { inside = here_is_inside table law page on.in_row; on = λ live. on }

-- and a page that was taken in is
led_to_merged : (table : TableValue) (key page : ℕ) → is_merged (slot_at table page).stage ≡ true → IsLedTo table key page
led_to_merged table key page gone = record {
  inside = used_in_bounds table.slots page (λ free. cc (gone, ap is_merged free));
  on = λ live. cc (gone, live);
}

-- a search goes on from this posted page, nearer to the leaf
pub record GoesOnTo (table : TableValue) (key page next : ℕ) : Type 0 where
  pub led : IsLedTo table key next
  pub nearer : rest_left table next < rest_left table page

in_row_is_not_merged : (stage : Stage) → is_in_row stage ≡ true → is_merged stage ≡ false
in_row_is_not_merged Free here = refl
in_row_is_not_merged Posted here = refl
in_row_is_not_merged Unposted here = refl
in_row_is_not_merged Marked here = refl
in_row_is_not_merged Merged here = cc

module _ (table : TableValue) (law : Lawful table) (key : ℕ) (is_key : key < key_count) (page : Pid) (on : IsUpTo table key page.0) where
  abbrev slot : SlotValue
  slot = slot_at table page.0

  abbrev route : Option (ℕ × Pid)
  route = last_upto key (routes_in slot)

  -- no route was passed yet
  first_is_left : IsGreatestLeft table.slots slot key route
  first_is_left = record { bound = key + 1; left = refl; passed = refl }

  -- the greatest route is the one to go down by, unless it leads to a page that was taken in
  live_by_route : (next : Pid) → is_merged (slot_in table.slots next.0).stage ≡ false → (found : Option (ℕ × Pid)) → route ≡ found → Some next ≡ option_map page_of found → Some next ≡ live_child table.slots slot key
  live_by_route next live None none is = cc
  live_by_route next live (Some (separator, child)) there is =
      let same : next ≡ child = ap (λ (o : Option Pid). unwrap_or o next) is in
      let Live : Pid → Type 0 = λ p. is_merged (slot_in table.slots p.0).stage ≡ false in
      is ∙ live_is_greatest table.slots slot key on.in_row (has_sound_chain table page.0 law) route first_is_left separator child there (subst Live same live)

  none_by_route : (found : Option (ℕ × Pid)) → route ≡ found → None ≡ option_map page_of found → None ≡ live_child table.slots slot key
  none_by_route None none is = no_child_is_live table.slots slot key on.in_row (has_sound_chain table page.0 law) route first_is_left none
  none_by_route (Some found) there is = cc

  same_next : (next : Option Pid) (past leaf : Bool) → (next ≡ option_map page_of route → next ≡ live_child table.slots slot key)
      → next ≡ cond past slot.right (cond leaf None (option_map page_of route)) → next ≡ cond past slot.right (cond leaf None (live_child table.slots slot key))
  same_next next true leaf down is = is
  same_next next false true down is = is
  same_next next false false down is = down is

  leads_on : (next : Option Pid) → (next ≡ option_map page_of route → next ≡ live_child table.slots slot key) → next ≡ next_by_routes slot key → LeadsOn table key page.0 next
  leads_on next down is = page_leads_on table law key is_key page on slot next refl (same_next next (nat_le (end_of slot.high) key) (slot.level == 0) down is)

  abbrev left : Bool → ℕ → ℕ
  left gone far = cond gone 0 (suc far)

  left_here : rest_left table page.0 ≡ suc (way_left table page.0)
  left_here = ap (λ (gone : Bool). left gone (way_left table page.0)) (in_row_is_not_merged slot.stage on.in_row)

  to_next : (next : Pid) → Some next ≡ next_by_routes slot key → (gone : Bool) → is_merged (slot_at table next.0).stage ≡ gone → GoesOnTo table key page.0 next.0
  to_next next is true gone =
      let none_left : rest_left table next.0 ≡ 0 = ap (λ (b : Bool). left b (way_left table next.0)) gone in
      record { led = led_to_merged table key next.0 gone; nearer = omega (arith, none_left, left_here) }
  to_next next is false live =
      let leads = leads_on (Some next) (live_by_route next live route refl) is in
      let left_there : rest_left table next.0 ≡ suc (way_left table next.0) = ap (λ (b : Bool). left b (way_left table next.0)) live in
      record { led = led_by table law key next.0 leads.there; nearer = omega (arith, leads.nearer, left_there, left_here) }

  goes_on_to : (next : Pid) → Some next ≡ next_by_routes slot key → GoesOnTo table key page.0 next.0
  goes_on_to next is = to_next next is (is_merged (slot_at table next.0).stage) refl

  ends_at_leaf : None ≡ next_by_routes slot key → IsLeafOf table key page.0
  ends_at_leaf is = let leads = leads_on None (none_by_route route refl) is in leads.leaf

-- a walk that has come to a page, whose slot isn't unfinished
module _ (table : TableValue) (law : Lawful table) (key : ℕ) (is_key : key < key_count) (page : Pid) (led : IsLedTo table key page.0) (own : SlotValue) (there : own ≡ slot_at table page.0) (rest : is_unfinished own.stage ≡ false) where
  here : IsAtRest table key page.0
  here = led_is_at_rest table key page.0 led (slot_at table page.0).stage refl (ap (λ (s : SlotValue). is_unfinished s.stage) (sym there) ∙ rest)

  abbrev is_next : Option Pid → Type 0
  is_next next = next ≡ next_by_routes own key

  pub rest_goes_on : (next : Pid) → is_next (Some next) → GoesOnTo table key page.0 next.0
  rest_goes_on next is = goes_on_to table law key is_key page here.on next (is ∙ ap (λ (s : SlotValue). next_by_routes s key) there)

  pub rest_ends : is_next None → IsLeafOf table key page.0
  rest_ends is = ends_at_leaf table law key is_key page here.on (is ∙ ap (λ (s : SlotValue). next_by_routes s key) there)
