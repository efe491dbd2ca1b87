-- What a search meets unfinished where it stops short of the leaf: its walk goes through a page that asks for something.
use Rattle.std.proofs.Common.{◌≡◌, ◌≢◌, ℕ, ◌+◌, ◌-◌, ◌<◌, ◌≤◌, Bool, true, false, not, cond, List, [], ◌∷◌, Option, Some, None, refl, sym, ◌∙◌, ap, subst, inl, inr, ⊎_elim, arith}
use Rattle.std.specs.Prelude.{◌==◌, nat_le, nat_lt, filter, option_map}
use Rattle.std.specs.Option.{option_or}
use Rattle.std.proofs.lemmas.Bool.Decides.{nat_tests}
use Rattle.bw_keys.specs.declared.page.Pid.{Pid}
use Rattle.bw_keys.specs.Ranges.{key_count, end_of}
use Rattle.bw_delta.specs.Entries.{at, rises, last_below, last_upto}
use Rattle.bw_step.specs.declared.place.Place.{Place}
use Rattle.bw_step.specs.declared.place.Go.{Go}
use Rattle.bw_step.specs.declared.place.Go.TheVariants.{Gone, Right, Down, Here}
use Rattle.bw_step.specs.declared.place.Todo.{Todo}
use Rattle.bw_step.specs.declared.place.Todo.TheVariants as todos
use Rattle.bw_step.specs.declared.view.Stage.{Stage}
use Rattle.bw_step.specs.declared.view.Stage.TheVariants.{Free, Posted, Unposted, Marked, Merged}
use Rattle.bw_step.specs.Stages.{is_in_row}
use Rattle.bw_chain.proofs.Firsts.{at-before}
use Rattle.bw_chain.proofs.Lasts.{last_below-bound}
use Rattle.bw_law.specs.Rows.{Outline}
use Rattle.bw_law.specs.Slots.{SlotValue, slot_in, routes_in, is_merged}
use Rattle.bw_law.specs.Tables.{TableValue, slot_at, id_of, outlines, Lawful}
use Rattle.bw_law.specs.Walks.{IsAmong, IsLive, GoesOn, IsWalk, IsWalkFrom}
use Rattle.bw_law.proofs.Facts.{right_is_next}
use Rattle.bw_law.proofs.MapAndTerms.{routes_in_rise}
use Rattle.bw_law.proofs.Walk.{ends_there, only_next, walk_law}
use Rattle.bw_table.specs.Gets.{IsUpTo, page_of}
use Rattle.bw_table.specs.Rests.{IsLedTo, IsOnTheWalk, MeetsTodo, is_unfinished, next_by_routes, todo_at}
use Rattle.bw_table.specs.Visits.{is_there, is_live, live_routes, down_by, way_on, next_by, own_todo, route_todo, todo_with, IsOnTheWay}
use Rattle.bw_table.proofs.LiveRoutes.{at-passes, last_stands, last_tested, live_is_last, some_stands}
use Rattle.bw_table.proofs.Ways.{IsProper, next_is_proper}
use Rattle.bw_table.proofs.Whole.{has_sound_chain}

-- A search goes on along its walk.

walks_on : (at : ℕ → Outline) (key p q : ℕ) → GoesOn at key p q → (walk : List ℕ) → IsWalk at key walk → IsAmong walk p → IsAmong walk q
walks_on at key p q goes [] is among = absurd is
walks_on at key p q goes (r ∷ []) is among = ⊎_elim
    (λ (last : p ≡ r). absurd (ends_there at key r q is.0 is.1 (subst (λ x. GoesOn at key x q) last goes)))
    (λ (none : IsAmong [] p). absurd none)
    among
walks_on at key p q goes (r ∷ s ∷ rest) is among = ⊎_elim
    (λ (here : p ≡ r). inr (inl (only_next at key r q s (subst (λ x. GoesOn at key x q) here goes) is.0)))
    (λ (later : IsAmong (s ∷ rest) p). inr (walks_on at key p q goes (s ∷ rest) is.1 later))
    among

walk_goes_on : (table : TableValue) (key p q : ℕ) → GoesOn (outlines table.slots) key p q → (walk : List ℕ)
    → IsWalkFrom (outlines table.slots) table.root key walk → IsAmong walk p → IsOnTheWalk table key q
walk_goes_on table key p q goes [] is among = absurd is
walk_goes_on table key p q goes (r ∷ rest) is among = (r ∷ rest, is, walks_on (outlines table.slots) key p q goes (r ∷ rest) is.1 among)

-- no entry that passes is greater than the last one
greatest_passes : {X : Type 0} → (test : ℕ × X → Bool) (low past bound k : ℕ) (x : X) (e : ℕ × X) (es : List (ℕ × X))
    → rises low past es ≡ true → last_below bound (filter test es) ≡ Some e → at k es ≡ Some x → test (k, x) ≡ true → k < bound → k ≤ e.0
greatest_passes test low past bound k x e [] rise last here passes under = cc
greatest_passes test low past bound k x e (d ∷ es) rise last here passes under =
    grind (
      arith,
      nat_tests,
      greatest_passes test (d.0 + 1) past bound k x e es,
      last_stands test (d.0 + 1) past bound e es,
      at-before (d.0 + 1) past e.0 es,
      at-before (d.0 + 1) past k es,
      some_stands bound k x (filter test es),
      at-passes test k x es,
    )

unmerged_passes : (stage : Stage) → stage ≢ Merged → not (is_merged stage) ≡ true
unmerged_passes Free live = refl
unmerged_passes Unposted live = refl
unmerged_passes Posted live = refl
unmerged_passes Marked live = refl
unmerged_passes Merged live = absurd (live refl)

passing_is_unmerged : (stage : Stage) → not (is_merged stage) ≡ true → stage ≢ Merged
passing_is_unmerged stage live merged = cc (ap is_merged merged)

row_is_not_merged : (stage : Stage) → is_in_row stage ≡ true → is_merged stage ≡ true → ⊥
row_is_not_merged Free here merged = cc
row_is_not_merged Unposted here merged = cc
row_is_not_merged Posted here merged = cc
row_is_not_merged Marked here merged = cc
row_is_not_merged Merged here merged = cc

-- a page that a search can go on from
module _ (table : TableValue) (law : Lawful table) (key : ℕ) (is_key : key < key_count) (page : Pid) (on : IsUpTo table key page.0) where
  abbrev slot : SlotValue
  slot = slot_at table page.0

  abbrev outline_at : ℕ → Outline
  outline_at = outlines table.slots

  no_greater : (route : ℕ × Pid) → last_upto key (live_routes table.slots slot) ≡ Some route → (k c : ℕ) → route.0 < k → k ≤ key
      → (found : Option Pid) → at k (routes_in slot) ≡ found → IsLive outline_at (outline_at page.0) k c → ⊥
  no_greater route is k c over upto None there live = cc (sym (ap (option_map id_of) there) ∙ live.0)
  no_greater route is k c over upto (Some child) there live =
      let same : child.0 ≡ c = cc (sym (ap (option_map id_of) there) ∙ live.0) in
      let unmerged : (slot_at table child.0).stage ≢ Merged = subst (λ p. (slot_at table p).stage ≢ Merged) (sym same) live.1 in
      let passes : is_live table.slots (k, child) ≡ true = unmerged_passes (slot_at table child.0).stage unmerged in
      let rise = routes_in_rise table law page.0 on.in_row in
      let end = end_of slot.high in
      let under : k < key + 1 = omega (arith, upto) in
      let last = greatest_passes (is_live table.slots) slot.low end (key + 1) k child route (routes_in slot) rise is there passes under in
      omega (arith, over, last)

  goes_down : key < end_of slot.high → 0 < slot.level → (route : ℕ × Pid) → last_upto key (live_routes table.slots slot) ≡ Some route
      → GoesOn outline_at key page.0 route.1.0
  goes_down inside above route is =
      let rise = routes_in_rise table law page.0 on.in_row in
      let stands = last_stands (is_live table.slots) slot.low (end_of slot.high) (key + 1) route (routes_in slot) rise is in
      let passes = last_tested (is_live table.slots) (key + 1) route (routes_in slot) is in
      inr (record {
        inner = (slot.level - 1, omega (arith, above));
        within = inside;
        route = route.0;
        at_or_below = omega (arith, last_below-bound (key + 1) route (live_routes table.slots slot) is);
        live = (ap (option_map id_of) stands, passing_is_unmerged (slot_at table route.1.0).stage passes);
        greatest = λ k c over upto live. no_greater route is k c over upto (at k (routes_in slot)) refl live;
      })

  -- it isn't gone
  abbrev place : Place
  place = record { pid = page; level = slot.level; from = slot.low }

  there : is_there slot place key 0 ≡ true
  there = grind (arith, nat_tests, on.in_row, on.low_upto)

  abbrev go : Go
  go = way_on table.slots page slot key 0

  proper : IsProper table place key 0 go
  proper = next_is_proper table place key 0 slot (next_by table.slots page slot key go) law is_key refl there refl

  on_the_way : IsOnTheWay table place key 0
  on_the_way = record { in_row = on.in_row; level = refl; goal_below = omega arith; low_from = omega arith; low_upto = on.low_upto }

  -- what its stage asks for is met
  own_is_met : (todo : Todo) → own_todo slot.stage page ≡ Some todo → todo_at table key page ≡ Some todo
  own_is_met todo own = by_go go proper
    where
      by_go : (way : Go) → IsProper table place key 0 way → todo_with table.slots page slot key way ≡ Some todo
      by_go Gone is = absurd (is.gone on_the_way)
      by_go (Right next) is = own
      by_go (Down next) is = ap (λ o. option_or o (route_todo table.slots (last_upto key (routes_in slot)))) own
      by_go (Here view) is = own

  -- and so is a route to a page that was taken in
  module _ (posted : slot.stage ≡ Posted) (inside : nat_le (end_of slot.high) key ≡ false) (inner : (slot.level == 0) ≡ false)
      (route : ℕ × Pid) (its : last_upto key (routes_in slot) ≡ Some route) (dead : is_merged (slot_at table route.1.0).stage ≡ true) where
    asks : option_or (own_todo slot.stage page) (route_todo table.slots (last_upto key (routes_in slot))) ≡ Some (todos.DropTerm route.1)
    asks = rw (posted, its, dead) refl

    by_way : (live : Option (ℕ × Pid)) → IsProper table place key 0 (down_by slot live)
        → todo_with table.slots page slot key (down_by slot live) ≡ Some (todos.DropTerm route.1)
    by_way None is = absurd (is.gone on_the_way)
    by_way (Some live) is = asks

    high : nat_lt 0 slot.level ≡ true
    high = grind (arith, nat_tests)

    goes : go ≡ down_by slot (last_upto key (live_routes table.slots slot))
    goes = rw (inside, high) refl

    route_is_met : todo_at table key page ≡ Some (todos.DropTerm route.1)
    route_is_met =
        ap (λ (way : Go). todo_with table.slots page slot key way) goes
        ∙ by_way (last_upto key (live_routes table.slots slot)) (subst (λ (way : Go). IsProper table place key 0 way) goes proper)

-- A search has come to a page: its walk goes through it, or the page was taken in, and the search has met the route to it.
pub record IsComeTo (table : TableValue) (key page : ℕ) : Type 0 where
  pub walked : is_merged (slot_at table page).stage ≡ false → IsOnTheWalk table key page
  pub met : is_merged (slot_at table page).stage ≡ true → MeetsTodo table key

pub root_is_come_to : (table : TableValue) (key : ℕ) → Lawful table → key < key_count → IsComeTo table key table.root
root_is_come_to table key law is_key =
    let one = walk_law table law key is_key in
    record { walked = λ live. (table.root ∷ one.rest, one.is_walk, inl refl); met = λ gone. cc (gone, ap is_merged law.rows.root_posted) }

-- from a posted page it comes to the next
module _ (table : TableValue) (law : Lawful table) (key : ℕ) (is_key : key < key_count) (page : Pid) (on : IsUpTo table key page.0)
    (posted : (slot_at table page.0).stage ≡ Posted) (walked : IsOnTheWalk table key page.0) (next : Pid) where
  abbrev from : SlotValue
  from = slot_at table page.0

  comes_by : GoesOn (outlines table.slots) key page.0 next.0 → IsOnTheWalk table key next.0
  comes_by goes = walk_goes_on table key page.0 next.0 goes walked.0 walked.1 walked.2

  comes_right : nat_le (end_of from.high) key ≡ true → Some next ≡ from.right → IsComeTo table key next.0
  comes_right past is = record {
    walked = λ live. comes_by (inl (grind (arith, nat_tests), ap (option_map id_of) (sym is)));
    met = λ gone. absurd (row_is_not_merged (slot_at table next.0).stage (right_is_next table law page.0 next on.in_row (sym is)).0 gone);
  }

  module _ (inside : nat_le (end_of from.high) key ≡ false) (inner : (from.level == 0) ≡ false) where
    comes_down : (route : ℕ × Pid) → last_upto key (routes_in from) ≡ Some route → next ≡ route.1 → IsComeTo table key next.0
    comes_down route its same = record {
      walked = λ live.
          let live_there : is_merged (slot_in table.slots route.1.0).stage ≡ false =
          subst (λ (p : Pid). is_merged (slot_in table.slots p.0).stage ≡ false) same live in
          let last = live_is_last table.slots from on.in_row (has_sound_chain table page.0 law) (key + 1) route its live_there in
          let goes = goes_down table law key is_key page on (grind (arith, nat_tests)) (grind (arith, nat_tests)) route last in
          comes_by (subst (λ (p : Pid). GoesOn (outlines table.slots) key page.0 p.0) (sym same) goes);
      met = λ gone.
          let dead : is_merged (slot_at table route.1.0).stage ≡ true =
          subst (λ (p : Pid). is_merged (slot_at table p.0).stage ≡ true) same gone in
          let met = route_is_met table law key is_key page on posted inside inner route its dead in
          record { page = page; on_the_walk = walked; todo = todos.DropTerm route.1; met = met };
    }

    by_route : (found : Option (ℕ × Pid)) → last_upto key (routes_in from) ≡ found → Some next ≡ option_map page_of found
        → IsComeTo table key next.0
    by_route None its is = cc
    by_route (Some route) its is = let same : next ≡ route.1 = cc in comes_down route its same

  by_fence : (past leaf : Bool) → nat_le (end_of from.high) key ≡ past → (from.level == 0) ≡ leaf
      → Some next ≡ cond past from.right (cond leaf None (option_map page_of (last_upto key (routes_in from)))) → IsComeTo table key next.0
  by_fence true leaf past_is leaf_is is = comes_right past_is is
  by_fence false true past_is leaf_is is = cc
  by_fence false false past_is leaf_is is = by_route past_is leaf_is (last_upto key (routes_in from)) refl is

  comes_on : Some next ≡ next_by_routes from key → IsComeTo table key next.0
  comes_on is = by_fence (nat_le (end_of from.high) key) (from.level == 0) refl refl is

posted_at_rest : (stage : Stage) → is_in_row stage ≡ true → is_unfinished stage ≡ false → stage ≡ Posted
posted_at_rest Free here rest = cc
posted_at_rest Posted here rest = refl
posted_at_rest Unposted here rest = cc
posted_at_rest Marked here rest = cc
posted_at_rest Merged here rest = cc

unmerged_at_rest : (stage : Stage) → is_unfinished stage ≡ false → is_merged stage ≡ false
unmerged_at_rest Free rest = refl
unmerged_at_rest Posted rest = refl
unmerged_at_rest Unposted rest = cc
unmerged_at_rest Marked rest = cc
unmerged_at_rest Merged rest = cc

-- a search that has come to a page, with its slot
module _ (table : TableValue) (law : Lawful table) (key : ℕ) (is_key : key < key_count) (page : Pid)
    (led : IsLedTo table key page.0) (come : IsComeTo table key page.0) (own : SlotValue) (there : own ≡ slot_at table page.0) where
  abbrev stage : Stage
  stage = (slot_at table page.0).stage

  same_test : (test : Bool) → is_unfinished own.stage ≡ test → is_unfinished stage ≡ test
  same_test test is = ap (λ (s : SlotValue). is_unfinished s.stage) (sym there) ∙ is

  pub come_goes_on : is_unfinished own.stage ≡ false → (next : Pid) → Some next ≡ next_by_routes own key → IsComeTo table key next.0
  come_goes_on rest next is =
      let live : is_merged stage ≡ false = unmerged_at_rest stage (same_test false rest) in
      let on = led.on live in
      let posted = posted_at_rest stage on.in_row (same_test false rest) in
      let its = is ∙ ap (λ (s : SlotValue). next_by_routes s key) there in
      comes_on table law key is_key page on posted (come.walked live) next its

  meets_own : (todo : Todo) → is_merged stage ≡ false → own_todo stage page ≡ Some todo → MeetsTodo table key
  meets_own todo live its =
      let met = own_is_met table law key is_key page (led.on live) todo its in
      record { page = page; on_the_walk = come.walked live; todo = todo; met = met }

  by_stage : (is : Stage) → stage ≡ is → is_unfinished is ≡ true → MeetsTodo table key
  by_stage Free is unfinished = cc
  by_stage Posted is unfinished = cc
  by_stage Unposted is unfinished = meets_own (todos.Post page) (ap is_merged is) (ap (λ s. own_todo s page) is)
  by_stage Marked is unfinished = meets_own (todos.Merge page) (ap is_merged is) (ap (λ s. own_todo s page) is)
  by_stage Merged is unfinished = come.met (ap is_merged is)

  pub come_meets : is_unfinished own.stage ≡ true → MeetsTodo table key
  come_meets unfinished = by_stage stage refl (same_test true unfinished)
