-- A table's pairs stay in a range while the keys that are changed lie in it.
use Rattle.std.proofs.Common.{◌≡◌, ◌≢◌, ℕ, ◌==◌, Bool, true, false, List, [], ◌∷◌, Option, Some, None, refl, sym, subst, arith}
use Rattle.std.specs.Prelude.{option_to_list, Result, Ok, Err, IfOk, OnOk, OnErr}
use Rattle.std.proofs.lemmas.Bool.Decides.{nat_tests}
use Rattle.bw_keys.specs.declared.page.Pid.{Pid}
use Rattle.bw_keys.specs.declared.range.Range.{Range}
use Rattle.bw_keys.specs.declared.wished.Wished.{Wished}
use Rattle.bw_keys.specs.declared.wished.Wished.TheVariants as wishes
use Rattle.bw_keys.specs.Ranges.{Holds}
use Rattle.bw_step.specs.declared.action.Action.{Action}
use Rattle.bw_step.specs.declared.action.Action.TheVariants as actions
use Rattle.bw_step.specs.declared.action.Performed.{Performed}
use Rattle.bw_step.specs.declared.action.Reshaping.TheVariants as reshapings
use Rattle.bw_step.specs.declared.receipt.Receipt.{Receipt}
use Rattle.bw_step.specs.declared.refused.Refused.{Refused}
use Rattle.bw_step.specs.Proposals.{Proposal, insert, delete, modify, consolidate, split, term_add, grow, mark, merge, term_delete}
use Rattle.bw_step.specs.Tellings.{Telling, change, look, shape, telling_of}
use Rattle.bw_law.specs.Effects.{TakesStep, after, receipt_of}
use Rattle.bw_law.specs.Laws.{MapAfter}
use Rattle.bw_law.specs.Runs.{TakesInTurn}
use Rattle.bw_law.specs.Slots.{SlotValue}
use Rattle.bw_law.specs.Tables.{TableValue, Lawful, Booked, Maps, TellsMap, slot_at}
use Rattle.bw_law.proofs.AllSteps.{step_law}
use Rattle.bw_table.specs.Actions.{IsPerformed, Takes, consolidated_behind, had_at, steps_for, wished_step, with_receipts}
use Rattle.bw_table.specs.InPlaces.{step_for}
use Rattle.bw_tree.specs.Ranges.{ActsIn, LiesIn, StaysIn}
use Rattle.bw_tree.specs.Trees.{IsTree}

-- the key that is told to have changed lies in the range
abbrev TellsWithin : Range → Telling → Type 0
TellsWithin range (change number key before after) = Holds range key
TellsWithin range (look at key found) = Unit {0}
TellsWithin range shape = Unit {0}

same_number : (a b : ℕ) → (a == b) ≡ true → a ≡ b
same_number a b is = grind (arith, nat_tests, is)

other_number : (a b : ℕ) → (a == b) ≡ false → a ≢ b
other_number a b is same = grind (arith, nat_tests, is, same)

told_key : (range : Range) (old new : List SlotValue) (key k value : ℕ) (b : Bool) → (k == key) ≡ b → Holds range key
    → (k ≢ key → Maps new k value → Maps old k value) → LiesIn range old → Maps new k value → Holds range k
told_key range old new key k value true is holds others lies maps = subst (Holds range) (sym (same_number k key is)) holds
told_key range old new key k value false is holds others lies maps = lies k value (others (other_number k key is) maps)

told_stays : (range : Range) (told : Telling) (old new : List SlotValue) → TellsWithin range told → TellsMap told old new
    → LiesIn range old → LiesIn range new
told_stays range (change number key before after) old new holds tells lies =
    λ k value maps. told_key range old new key k value (k == key) refl holds (λ other now. (tells.others k value other).0 now) lies maps
told_stays range (look at key found) old new holds tells lies = λ k value maps. lies k value ((tells.1 k value).0 maps)
told_stays range shape old new holds tells lies = λ k value maps. lies k value ((tells k value).0 maps)

tells_within : (range : Range) (table : TableValue) (step : Proposal) → StaysIn range step
    → TellsWithin range (telling_of (receipt_of table step))
tells_within range table (insert page seen key value) stays = stays
tells_within range table (delete page seen key) stays = stays
tells_within range table (modify page seen key value) stays = stays
tells_within range table (consolidate page seen base) stays = tt
tells_within range table (split page seen separator base) stays = tt
tells_within range table (term_add parent parent_seen child child_seen) stays = tt
tells_within range table (grow child seen base) stays = tt
tells_within range table (mark page seen parent) stays = tt
tells_within range table (merge left left_seen page page_seen) stays = tt
tells_within range table (term_delete parent parent_seen child child_seen) stays = tt

-- each of the steps stays in the range
abbrev AllStay : Range → List (Proposal × Receipt) → Type 0
AllStay range [] = Unit {0}
AllStay range (taken ∷ rest) = StaysIn range taken.0 × AllStay range rest

abbrev EachStays : Range → List Proposal → Type 0
EachStays range [] = Unit {0}
EachStays range (step ∷ steps) = StaysIn range step × EachStays range steps

abbrev WishStays : Range → Option Proposal → Type 0
WishStays range None = Unit {0}
WishStays range (Some step) = StaysIn range step

pub turn_stays : (range : Range) (steps : List (Proposal × Receipt)) (old new : TableValue) → Lawful old → Booked old
    → AllStay range steps → TakesInTurn old steps new → LiesIn range old.slots → LiesIn range new.slots
turn_stays range [] old new law booked stay turn lies = subst (λ (t : TableValue). LiesIn range t.slots) (sym turn) lies
turn_stays range (taken ∷ rest) old new law booked stay turn lies =
    let kept = step_law old taken.0 law booked turn.1 in
    let leads = sym turn.2.leads in
    turn_stays range rest turn.0 new (subst Lawful leads kept.lawful) (subst Booked leads kept.booked) stay.1 turn.3
    (subst (λ (t : TableValue). LiesIn range t.slots) leads
    (told_stays range (telling_of (receipt_of old taken.0)) old.slots (after old taken.0).slots
    (tells_within range old taken.0 stay.0) kept.map lies))

with_stay : (range : Range) (page : Pid) (steps : List Proposal) → EachStays range steps → AllStay range (with_receipts page steps)
with_stay range page [] stay = tt
with_stay range page (step ∷ steps) stay = (stay.0, with_stay range page steps stay.1)

wish_stays : (range : Range) (page seen key : ℕ) (wished : Wished) (had : Option ℕ) → Holds range key
    → WishStays range (step_for page seen key wished had)
wish_stays range page seen key (wishes.Put value) None holds = holds
wish_stays range page seen key (wishes.Put value) (Some had) holds = tt
wish_stays range page seen key (wishes.Set value) None holds = holds
wish_stays range page seen key (wishes.Set value) (Some had) holds = holds
wish_stays range page seen key wishes.Delete None holds = tt
wish_stays range page seen key wishes.Delete (Some had) holds = holds

behind_stay : (range : Range) (table : TableValue) (page : ℕ) (step : Option Proposal) → WishStays range step
    → EachStays range (consolidated_behind table page step)
behind_stay range table page None stays = tt
behind_stay range table page (Some step) stays = (stays, (tt, tt))

alone_stays : (range : Range) (step : Option Proposal) → WishStays range step → EachStays range (option_to_list step)
alone_stays range None stays = tt
alone_stays range (Some step) stays = (stays, tt)

each_stays : (range : Range) (table : TableValue) (page : ℕ) (action : Action) → ActsIn range action
    → EachStays range (steps_for table page action)
each_stays range table page (actions.Change key wished) holds =
    behind_stay range table page (wished_step table page key wished)
    (wish_stays range page (slot_at table page).version key wished (had_at table page key) holds)
each_stays range table page (actions.Record key wished) holds =
    alone_stays range (wished_step table page key wished)
    (wish_stays range page (slot_at table page).version key wished (had_at table page key) holds)
each_stays range table page (actions.Reshape at seen reshapings.Consolidate) holds = (tt, tt)
each_stays range table page (actions.Reshape at seen reshapings.Halve) holds = (tt, tt)
each_stays range table page (actions.AddTerm child) holds = (tt, tt)
each_stays range table page (actions.Cut at seen) holds = (tt, (tt, tt))
each_stays range table page (actions.Post child) holds = (tt, (tt, tt))

module _ (range : Range) (old new : TableValue) (it : Performed) (law : Lawful old) (booked : Booked old)
    (lies : LiesIn range old.slots) where
  takes_stay : (steps : List Proposal) → EachStays range steps → Takes old it new steps → LiesIn range new.slots
  takes_stay [] stay takes = subst (λ (t : TableValue). LiesIn range t.slots) (sym takes.1) lies
  takes_stay (step ∷ behind) stay takes =
      turn_stays range ((step, it.receipt) ∷ with_receipts it.page behind) old new law booked
      (stay.0, with_stay range it.page behind stay.1) takes lies

  -- what was performed with a key of the range
  pub performed_stays : (action : Action) → ActsIn range action → IsPerformed old action new it → LiesIn range new.slots
  performed_stays action acts done = takes_stay (steps_for old it.page.0 action) (each_stays range old it.page.0 action acts) done.takes

-- a step of a key in the range, or of none, whether it was taken or not
pub install_stays : (range : Range) (old new : TableValue) (step : Proposal) (result : Result Receipt Refused) → StaysIn range step
    → OnOk result (MapAfter old step) → IfOk result (λ receipt. TakesStep old step receipt new) → OnErr result (new ≡ old)
    → LiesIn range old.slots → LiesIn range new.slots
install_stays range old new step (Ok receipt) stays map taken same lies =
    rw taken.leads
    (told_stays range (telling_of (receipt_of old step)) old.slots (after old step).slots (tells_within range old step stays) map lies)
install_stays range old new step (Err why) stays map taken same lies = rw same lies

-- an action of a key in the range, or of none, whether it was performed or not
pub perform_stays : {E : Type 0} (range : Range) (old new : TableValue) (action : Action) (result : Result Performed E) → IsTree old
    → ActsIn range action → IfOk result (IsPerformed old action new) → OnErr result (new ≡ old) → LiesIn range old.slots
    → LiesIn range new.slots
perform_stays range old new action (Ok it) tree acts done same lies =
    performed_stays range old new it tree.lawful tree.booked lies action acts done
perform_stays range old new action (Err why) tree acts done same lies = rw same lies
