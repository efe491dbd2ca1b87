-- A worker that has the table for itself isn't lost: its next place is on the way, and its page is there.
use Rattle.std.proofs.Common.{◌≡◌, ◌<◌, ◌≤◌, ℕ, true, Option, Some, None, Ok, refl, sym, ap, ◌∙◌, subst, arith}
use Rattle.std.specs.Prelude.{nat_le, nat_lt, ◌==◌, IfSome}
use Rattle.std.proofs.lemmas.Bool.Decides.{nat_tests}
use Rattle.bw_keys.specs.Ranges.{end_of}
use Rattle.bw_delta.specs.Entries.{at}
use Rattle.bw_step.specs.declared.place.Place.{Place}
use Rattle.bw_step.specs.declared.place.Go.{Go}
use Rattle.bw_step.specs.declared.place.Go.TheVariants.{Gone, Right, Down, Here}
use Rattle.bw_step.specs.declared.view.Look.{Look}
use Rattle.bw_step.specs.declared.view.View.{View}
use Rattle.bw_step.specs.Stages.{is_in_row}
use Rattle.bw_law.specs.Laws.{IsLeafOf}
use Rattle.bw_law.specs.Slots.{pairs_in}
use Rattle.bw_law.specs.Tables.{TableValue, slot_at, number_of}
use Rattle.bw_table.specs.Views.{look_at, view_of}
use Rattle.bw_table.specs.Visits.{IsOnTheWay, IsFound, TellsWhetherOnTheWay, StaysOnTheWay, FindsPage}
use Rattle.bw_procedures.specs.Calls.{IsAtLevel}
use Rattle.bw_procedures.specs.Facts.{CalmNext, IsLooked}
use Rattle.bw_alone.specs.Calm.{HoldsKey, IsTrueOf}

-- the page that a search found holds the key, and has the version of its view
found_holds : (table : TableValue) (place : Place) (key goal : ℕ) (view : View) → IsFound table place key goal view → HoldsKey table key goal view.pid.0
found_holds table place key goal view found =
    rw found.its_view (record {
      in_row = subst (λ (v : View). is_in_row v.stage ≡ true) found.its_view found.in_row;
      on_level = subst (λ (v : View). v.level ≡ goal) found.its_view found.level;
      from_low = subst (λ (v : View). v.low ≤ key) found.its_view found.low_upto;
      below_high = subst (λ (v : View). key < end_of v.high) found.its_view found.below_high;
    })

pub next_is_calm : (table : TableValue) (place : Place) (key goal : ℕ) (go : Go) → TellsWhetherOnTheWay table place key goal go → StaysOnTheWay table key goal go → FindsPage table place key goal go
    → IsOnTheWay table place key goal → CalmNext (IsTrueOf table) key goal go
next_is_calm table place key goal Gone tells stays finds on = tells on
next_is_calm table place key goal (Right next) tells stays finds on = stays
next_is_calm table place key goal (Down next) tells stays finds on = stays
next_is_calm table place key goal (Here view) tells stays finds on = (found_holds table place key goal view finds, rw finds.its_view refl)

-- a look at the leaf that holds the key is answered
look_is_answered : (table : TableValue) (key page : ℕ) → HoldsKey table key 0 page → look_at table page key ≡ Some (record { found = at key (pairs_in (slot_at table page)); at = number_of table.book })
look_is_answered table key page has =
    let level : ((slot_at table page).level == 0) ≡ true = rw has.on_level refl in
    let low : nat_le (slot_at table page).low key ≡ true = grind (arith, nat_tests, has.from_low) in
    let high : nat_lt key (end_of (slot_at table page).high) ≡ true = grind (arith, nat_tests, has.below_high) in
    rw (has.in_row, level, low, high) refl

not_nothing : (table : TableValue) (key page : ℕ) → look_at table page key ≡ None → HoldsKey table key 0 page → ⊥
not_nothing table key page none has = cc (none, look_is_answered table key page has)

pub look_is_calm : (table : TableValue) (key page : ℕ) (look : Option Look) → look_at table page key ≡ look → HoldsKey table key 0 page → IsLooked (Ok look)
look_is_calm table key page None seen has = not_nothing table key page seen has
look_is_calm table key page (Some look) seen has = tt

-- the leaf that is found at once holds the key, and has the version of its view
pub rest_is_calm : (table : TableValue) (key : ℕ) (answer : Option View) → IfSome answer (λ view. view ≡ view_of view.pid (slot_at table view.pid.0)) → IfSome answer (λ view. IsLeafOf table key view.pid.0)
    → IfSome answer (λ view. HoldsKey table key 0 view.pid.0 × ((slot_at table view.pid.0).version ≡ view.version.0))
rest_is_calm table key None its_view leaf = tt
rest_is_calm table key (Some view) its_view leaf =
    (record { in_row = leaf.in_row; on_level = leaf.is_leaf; from_low = leaf.spans.0; below_high = leaf.spans.1 }, ap (λ (v : View). v.version.0) (sym its_view))

pub rest_is_at_level : (table : TableValue) (key : ℕ) (answer : Option View) → IfSome answer (λ view. view ≡ view_of view.pid (slot_at table view.pid.0)) → IfSome answer (λ view. IsLeafOf table key view.pid.0) → IsAtLevel 0 answer
rest_is_at_level table key None its_view leaf = tt
rest_is_at_level table key (Some view) its_view leaf = ap (λ (v : View). v.level) its_view ∙ leaf.is_leaf
