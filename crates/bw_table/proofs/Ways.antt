-- The way on from a page of a lawful table that is there: it isn't gone, and leads to a page that is there too.
use Rattle.std.proofs.Common.{◌≡◌, ◌≢◌, ℕ, ◌+◌, ◌-◌, ◌<◌, ◌≤◌, Bool, true, false, cond, not, Option, Some, None, refl, sym, ◌∙◌, ap, subst, arith}
use Rattle.std.specs.Prelude.{nat_le, nat_lt}
use Rattle.std.proofs.lemmas.Bool.Decides.{nat_tests}
use Rattle.bw_keys.specs.declared.page.Pid.{Pid}
use Rattle.bw_keys.specs.Ranges.{key_count, end_of}
use Rattle.bw_delta.specs.Entries.{last_upto}
use Rattle.bw_step.specs.declared.place.Place.{Place}
use Rattle.bw_step.specs.declared.place.Go.{Go}
use Rattle.bw_step.specs.declared.place.Go.TheVariants.{Here}
use Rattle.bw_step.specs.declared.place.Next.{Next}
use Rattle.bw_step.specs.declared.view.Stage.{Stage}
use Rattle.bw_step.specs.declared.view.Stage.TheVariants.{Free, Unposted, Posted, Marked, Merged}
use Rattle.bw_step.specs.declared.view.View.{View}
use Rattle.bw_step.specs.Stages.{is_in_row}
use Rattle.bw_law.specs.Slots.{SlotValue, routes_in, is_merged}
use Rattle.bw_law.specs.Tables.{TableValue, slot_at, outlines, Lawful}
use Rattle.bw_law.specs.Walks.{last_of}
use Rattle.bw_law.specs.Laws.{IsLeafOf}
use Rattle.bw_law.proofs.Facts.{range_is_not_empty, right_is_next, last_ends_at_top, route_is_term, first_child}
use Rattle.bw_law.proofs.MapAndTerms.{routes_in_rise}
use Rattle.bw_law.proofs.Walk.{term_in_row, walk_ends, walk_law}
use Rattle.bw_chain.proofs.Lasts.{last_below-bound}
use Rattle.bw_table.specs.Views.{view_of}
use Rattle.bw_table.specs.Visits.{is_there, is_live, live_routes, right_to, down_by, way_on, next_by, IsOnTheWay, IsFound, TellsWhetherOnTheWay, StaysOnTheWay, ComesNearer, FindsPage, EachWalkEndsAt, OneWalkEndsAt}
use Rattle.bw_table.proofs.LiveRoutes.{at-passes, last_stands, last_tested, some_stands}

-- what an answer is to report of its place, and of the way on
pub record IsProper (table : TableValue) (place : Place) (key goal : ℕ) (go : Go) : Type 0 where
  pub gone : TellsWhetherOnTheWay table place key goal go
  pub stays : StaysOnTheWay table key goal go
  pub nearer : ComesNearer place go
  pub found : FindsPage table place key goal go

-- a place whose test holds is on the way
there_is_on_the_way : (table : TableValue) (place : Place) (key goal : ℕ) → is_there (slot_at table place.pid.0) place key goal ≡ true → IsOnTheWay table place key goal
there_is_on_the_way table place key goal there = record {
  in_row = grind (arith, nat_tests);
  level = grind (arith, nat_tests);
  goal_below = grind (arith, nat_tests);
  low_from = grind (arith, nat_tests);
  low_upto = grind (arith, nat_tests);
}

-- a page in a row isn't merged
row_is_unmerged : (stage : Stage) → is_in_row stage ≡ true → is_merged stage ≡ false
row_is_unmerged Free here = refl
row_is_unmerged Unposted here = refl
row_is_unmerged Posted here = refl
row_is_unmerged Marked here = refl
row_is_unmerged Merged here = cc

live_is_unmerged : (stage : Stage) → not (is_merged stage) ≡ true → stage ≢ Merged
live_is_unmerged stage live merged = cc (ap is_merged merged)

module _ (table : TableValue) (law : Lawful table) (place : Place) (key goal : ℕ) (on : IsOnTheWay table place key goal) (is_key : key < key_count) where
  abbrev page : ℕ
  page = place.pid.0

  abbrev slot : SlotValue
  slot = slot_at table page

  -- to the right
  right_way : end_of slot.high ≤ key → (right : Option Pid) → slot.right ≡ right → IsProper table place key goal (right_to slot right)
  right_way past None is = absurd (omega (arith, last_ends_at_top table law page on.in_row is))
  right_way past (Some right) is =
      let next = right_is_next table law page right on.in_row is in record {
        gone = on;
        stays = record {
          in_row = next.0;
          level = next.1;
          goal_below = omega (arith, on.level, on.goal_below);
          low_from = omega (arith, next.2);
          low_upto = omega (arith, next.2);
        };
        nearer = (on.level, omega (arith, on.low_from, range_is_not_empty table law page on.in_row));
        found = tt;
      }

  -- down
  down_way : goal < slot.level → (route : Option (ℕ × Pid)) → last_upto key (live_routes table.slots slot) ≡ route → IsProper table place key goal (down_by slot route)
  down_way above None is =
      let first = first_child table law page (slot.level - 1) on.in_row (omega arith) in
      let live : is_live table.slots (slot.low, first.0) ≡ true = ap not (row_is_unmerged (slot_at table first.0.0).stage first.2) in
      absurd (some_stands (key + 1) slot.low first.0 (live_routes table.slots slot) (at-passes (is_live table.slots) slot.low first.0 (routes_in slot) first.1 live) (omega (arith, on.low_upto)) is)
  down_way above (Some route) is =
      let stands = last_stands (is_live table.slots) slot.low (end_of slot.high) (key + 1) route (routes_in slot) (routes_in_rise table law page on.in_row) is in
      let live = last_tested (is_live table.slots) (key + 1) route (routes_in slot) is in
      let term = route_is_term table law page route.0 route.1 on.in_row stands in
      record {
        gone = on;
        stays = record {
          in_row = term_in_row (slot_at table route.1.0).stage term.0 (live_is_unmerged (slot_at table route.1.0).stage live);
          level = omega (arith, term.1);
          goal_below = omega arith;
          low_from = omega (arith, term.2);
          low_upto = omega (arith, term.2, last_below-bound (key + 1) route (live_routes table.slots slot) is);
        };
        nearer = omega (arith, on.level);
        found = tt;
      }

  -- nowhere: on the goal's level the search ends
  end_way : key < end_of slot.high → slot.level ≤ goal → IsProper table place key goal (Here (view_of place.pid slot))
  end_way inside low_level = record {
    gone = on;
    stays = tt;
    nearer = tt;
    found = record { its_view = refl; in_row = on.in_row; level = omega (arith, on.level, on.goal_below); low_from = on.low_from; low_upto = on.low_upto; below_high = inside };
  }

  -- down or nowhere, where the page holds the key
  inside_way : key < end_of slot.high → (above : Bool) → nat_lt goal slot.level ≡ above → IsProper table place key goal (cond above (down_by slot (last_upto key (live_routes table.slots slot))) (Here (view_of place.pid slot)))
  inside_way inside true is = down_way (grind (arith, nat_tests)) (last_upto key (live_routes table.slots slot)) refl
  inside_way inside false is = end_way inside (grind (arith, nat_tests))

  -- the one of these that the slot asks for
  each_way : (past : Bool) → nat_le (end_of slot.high) key ≡ past → IsProper table place key goal (cond past (right_to slot slot.right) (cond (nat_lt goal slot.level) (down_by slot (last_upto key (live_routes table.slots slot))) (Here (view_of place.pid slot))))
  each_way true is = right_way (grind (arith, nat_tests)) slot.right refl
  each_way false is = inside_way (grind (arith, nat_tests)) (nat_lt goal slot.level) refl

  way_is_proper : IsProper table place key goal (way_on table.slots place.pid slot key goal)
  way_is_proper = each_way (nat_le (end_of slot.high) key) refl

-- so is the answer that was made of the page's slot
pub next_is_proper : (table : TableValue) (place : Place) (key goal : ℕ) (slot : SlotValue) (next : Next) → Lawful table → key < key_count
    → slot ≡ slot_at table place.pid.0 → is_there slot place key goal ≡ true → next ≡ next_by table.slots place.pid slot key (way_on table.slots place.pid slot key goal)
    → IsProper table place key goal next.go
next_is_proper table place key goal slot next law is_key same there is =
    let on : is_there (slot_at table place.pid.0) place key goal ≡ true = rw (← same) there in
    let go : next.go ≡ way_on table.slots place.pid (slot_at table place.pid.0) key goal =
    ap (λ (n : Next). n.go) is ∙ ap (λ (s : SlotValue). way_on table.slots place.pid s key goal) same in
    subst (IsProper table place key goal) (sym go) (way_is_proper table law place key goal (there_is_on_the_way table place key goal on) is_key)

-- each walk from the root ends at the leaf whose range holds the key
pub each_walk_ends_there : (table : TableValue) (key leaf : ℕ) → Lawful table → IsLeafOf table key leaf → EachWalkEndsAt table key leaf
each_walk_ends_there table key leaf law is rest walk =
    let end = walk_ends key_count (outlines table.slots) table.root law.rows key rest walk in
    law.rows.apart (last_of table.root rest) leaf key end.0 is.in_row (end.1 ∙ sym is.is_leaf) end.2 is.spans

-- and there is just one
pub one_walk_ends_there : (table : TableValue) (key leaf : ℕ) → Lawful table → key < key_count → IsLeafOf table key leaf → OneWalkEndsAt table key leaf
one_walk_ends_there table key leaf law below is =
    let one = walk_law table law key below in
    record { rest = one.rest; is_walk = one.is_walk; only = one.only; ends = sym (one.one_leaf leaf is) }

-- a page that was found for a goal of 0 is a leaf
pub found_leaf : (table : TableValue) (place : Place) (key : ℕ) (view : View) → IsFound table place key 0 view → IsLeafOf table key view.pid.0
found_leaf table place key view found =
    subst (λ (v : View). IsLeafOf table key v.pid.0) (sym found.its_view) (record {
      in_row = subst (λ (v : View). is_in_row v.stage ≡ true) found.its_view found.in_row;
      is_leaf = subst (λ (v : View). v.level ≡ 0) found.its_view found.level;
      spans = (subst (λ (v : View). v.low ≤ key) found.its_view found.low_upto, subst (λ (v : View). key < end_of v.high) found.its_view found.below_high);
    })
