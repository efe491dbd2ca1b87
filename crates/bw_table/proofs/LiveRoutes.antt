-- The greatest of the routes that are live: of the entries that pass a test, among those whose keys rise.
use Rattle.std.proofs.Common.{◌≡◌, ℕ, ◌+◌, ◌<◌, ◌≤◌, Bool, true, false, not, List, [], ◌∷◌, Option, Some, None, refl, sym, ap, subst, arith}
use Rattle.std.specs.Prelude.{filter, unwrap_or, option_map}
use Rattle.std.specs.Option.{option_or}
use Rattle.std.proofs.lemmas.Bool.Decides.{nat_tests}
use Rattle.bw_keys.specs.declared.page.Pid.{Pid}
use Rattle.bw_keys.specs.Ranges.{end_of}
use Rattle.bw_delta.specs.Entries.{at, rises, last_below}
use Rattle.bw_delta.specs.Fence.{fences}
use Rattle.bw_delta.specs.Pairs.{routes}
use Rattle.bw_delta.proofs.Stands.{RisesIn, routes_rise}
use Rattle.bw_step.specs.declared.place.Todo.{Todo}
use Rattle.bw_step.specs.declared.place.Todo.TheVariants as todos
use Rattle.bw_step.specs.Stages.{is_in_row}
use Rattle.bw_chain.proofs.Firsts.{at-before}
use Rattle.bw_chain.proofs.Lasts.{last_from_low, last_below-bound}
use Rattle.bw_law.specs.Slots.{SlotValue, slot_in, routes_in, is_merged}
use Rattle.bw_table.specs.SlotFacts.{HasSoundChain}
use Rattle.bw_table.specs.Visits.{is_live, live_routes, route_todo}

module _ {X : Type 0} (test : ℕ × X → Bool) where
  -- no entry below a bound, and so none that passes
  pub none_passes : (bound : ℕ) (es : List (ℕ × X)) → last_below bound es ≡ None → last_below bound (filter test es) ≡ None
  none_passes bound [] none = refl
  none_passes bound (e ∷ es) none = grind (arith, nat_tests, none_passes bound es)

  -- the last entry passes
  pub last_passes : (bound : ℕ) (e : ℕ × X) (es : List (ℕ × X)) → last_below bound es ≡ Some e → test e ≡ true → last_below bound (filter test es) ≡ Some e
  last_passes bound e [] last passes = cc
  last_passes bound e (d ∷ es) last passes = grind (arith, nat_tests, last_passes bound e es, none_passes bound es)

  none_below_low : (low past bound : ℕ) (es : List (ℕ × X)) → bound ≤ low → rises low past es ≡ true → last_below bound es ≡ None
  none_below_low low past bound [] le h = refl
  none_below_low low past bound (d ∷ es) le h = grind (arith, nat_tests, none_below_low (d.0 + 1) past bound es)

  -- the last entry doesn't pass: only those before it may
  pub last_fails : (low past bound : ℕ) (e : ℕ × X) (es : List (ℕ × X)) → rises low past es ≡ true → last_below bound es ≡ Some e → test e ≡ false → last_below bound (filter test es) ≡ last_below e.0 (filter test es)
  last_fails low past bound e [] h last fails = refl
  last_fails low past bound e (d ∷ es) h last fails =
      grind (
        arith,
        nat_tests,
        last_fails (d.0 + 1) past bound e es,
        none_passes bound es,
        none_passes d.0 es,
        none_below_low (d.0 + 1) past d.0 es,
        last_from_low (d.0 + 1) past bound e es,
        last_below-bound bound e es,
      )

  -- an entry that passes stands among those that do
  pub at-passes : (key : ℕ) (x : X) (es : List (ℕ × X)) → at key es ≡ Some x → test (key, x) ≡ true → at key (filter test es) ≡ Some x
  at-passes key x [] here passes = cc
  at-passes key x (d ∷ es) here passes = grind (arith, nat_tests, at-passes key x es)

  -- the last entry that passes stands at its key, and passes
  pub last_stands : (low past bound : ℕ) (e : ℕ × X) (es : List (ℕ × X)) → rises low past es ≡ true → last_below bound (filter test es) ≡ Some e → at e.0 es ≡ Some e.1
  last_stands low past bound e [] h last = cc
  last_stands low past bound e (d ∷ es) h last =
      grind (arith, nat_tests, last_stands (d.0 + 1) past bound e es, at-before (d.0 + 1) past e.0 es)

  pub last_tested : (bound : ℕ) (e : ℕ × X) (es : List (ℕ × X)) → last_below bound (filter test es) ≡ Some e → test e ≡ true
  last_tested bound e [] last = cc
  last_tested bound e (d ∷ es) last = grind (arith, nat_tests, last_tested bound e es)

-- below a bound there is a last entry, where one stands at a key
pub some_stands : {X : Type 0} → (bound key : ℕ) (x : X) (es : List (ℕ × X)) → at key es ≡ Some x → key < bound → last_below bound es ≡ None → ⊥
some_stands bound key x [] here under none = cc
some_stands bound key x (d ∷ es) here under none = grind (arith, nat_tests, some_stands bound key x es)

-- the greatest live route of a page in a row below a bound, found by trying its routes from the greatest one down
module _ (slots : List SlotValue) (slot : SlotValue) (in_row : is_in_row slot.stage ≡ true) (sound : HasSoundChain slot) (bound : ℕ) where
  -- a route to a merged page is passed
  pub dead_is_passed : (route : ℕ × Pid) → last_below bound (routes_in slot) ≡ Some route → is_merged (slot_in slots route.1.0).stage ≡ true
      → last_below bound (live_routes slots slot) ≡ last_below route.0 (live_routes slots slot)
  dead_is_passed route last dead =
      let own = sound in_row in
      let chain = own.0 in
      let same : routes chain ≡ routes_in slot = sym (ap (λ o. unwrap_or (option_map routes o) []) own.1) in
      let rise : rises (fences chain).low (end_of (fences chain).high) (routes_in slot) ≡ true = subst (λ es. RisesIn (fences chain) es) same (routes_rise chain own.2.built) in
      last_fails (is_live slots) (fences chain).low (end_of (fences chain).high) bound route (routes_in slot) rise last (ap not dead)

  -- and the first that isn't is the greatest live one
  pub live_is_last : (route : ℕ × Pid) → last_below bound (routes_in slot) ≡ Some route → is_merged (slot_in slots route.1.0).stage ≡ false → last_below bound (live_routes slots slot) ≡ Some route
  live_is_last route last live = last_passes (is_live slots) bound route (routes_in slot) last (ap not live)

  -- where there is no route there is no live one
  pub none_is_live : last_below bound (routes_in slot) ≡ None → last_below bound (live_routes slots slot) ≡ None
  none_is_live none = none_passes (is_live slots) bound (routes_in slot) none

-- what the greatest route at or below the key asks for: nothing where it is live
pub live_asks_nothing : (slots : List SlotValue) (own : Option Todo) (o : Option (ℕ × Pid)) (route : ℕ × Pid) → o ≡ Some route → is_merged (slot_in slots route.1.0).stage ≡ false
    → own ≡ option_or own (route_todo slots o)
live_asks_nothing slots None o route is live = rw (is, live) refl
live_asks_nothing slots (Some todo) o route is live = refl

-- and to be taken out where it leads to a merged page
pub dead_is_dropped : (slots : List SlotValue) (o : Option (ℕ × Pid)) (route : ℕ × Pid) → o ≡ Some route → is_merged (slot_in slots route.1.0).stage ≡ true
    → Some (todos.DropTerm route.1) ≡ route_todo slots o
dead_is_dropped slots o route is dead = rw (is, dead) refl
