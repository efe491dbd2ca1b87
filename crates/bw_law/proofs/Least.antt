-- The first reason has the least number of those that apply.
use Rattle.std.proofs.Common.{◌≡◌, ℕ, zero, suc, ◌<◌, ◌≤◌, Bool, true, false, ◌&&◌, ltb, List, [], ◌∷◌, Option, Some, None, refl, arith}
use Rattle.std.specs.Prelude.{option_map, slice_get}
use Rattle.std.proofs.lemmas.Bool.{and_parts, ltb-true}
use Rattle.std.proofs.lemmas.Bool.Decides.{nat_tests}
use Rattle.bw_keys.specs.declared.page.Pid.{Pid}
use Rattle.bw_keys.specs.Reasons.{when, first_reason}
use Rattle.bw_step.specs.declared.refused.Refused.{Refused}
use Rattle.bw_step.specs.declared.refused.Refused.TheVariants.{Absent, Stale, Frozen, WrongKind, OutOfRange, Present, NoKey, NotBare, BadSeparator, NotSame, WrongStage, WrongParent, TermStands, Leftmost, NotNeighbours, Deep, TooTall, TableFull, Worn}
use Rattle.bw_step.specs.Proposals.{Proposal, insert, delete, modify, consolidate, split, term_add, grow, mark, merge, term_delete}
use Rattle.bw_law.specs.Tables.{TableValue}
use Rattle.bw_law.specs.Refusals.{reasons, refusals_of}
use Rattle.bw_law.specs.Numbers.{number_of_refusal, HasNumber, AreNumbered, RefusalLaw}

-- a reason has its number where its test holds
given : (test : Bool) (reason : Refused) → HasNumber (number_of_refusal reason) (when test reason)
given true reason = refl
given false reason = tt

-- and so has one that carries a value
present : (value : Option ℕ) → HasNumber 6 (option_map Present value)
present (Some value) = refl
present None = tt

stands : (page : Option Pid) → HasNumber 12 (option_map TermStands page)
stands (Some page) = refl
stands None = tt

-- the reasons against each step have the numbers of its refusals
numbered : (table : TableValue) (step : Proposal) → AreNumbered (refusals_of step) (reasons table step)
numbered table (insert page seen key value) =
    (given _ Absent, (given _ Stale, (given _ Frozen, (given _ WrongKind, (given _ OutOfRange, (present _, (given _ Deep, (given _ Worn, tt))))))))
numbered table (delete page seen key) =
    (given _ Absent, (given _ Stale, (given _ Frozen, (given _ WrongKind, (given _ OutOfRange, (given _ NoKey, (given _ Deep, (given _ Worn, tt))))))))
numbered table (modify page seen key value) =
    (given _ Absent, (given _ Stale, (given _ Frozen, (given _ WrongKind, (given _ OutOfRange, (given _ NoKey, (given _ Deep, (given _ Worn, tt))))))))
numbered table (consolidate page seen base) = (given _ Absent, (given _ Stale, (given _ Frozen, (given _ WrongKind, (given _ NotSame, (given _ Worn, tt))))))
numbered table (split page seen separator base) =
    (given _ Absent, (given _ Stale, (given _ Frozen, (given _ WrongKind, (given _ OutOfRange, (given _ NotBare, (given _ BadSeparator, (given _ NotSame, (given _ TableFull, (given _ Worn, tt))))))))))
numbered table (term_add parent parent_seen child child_seen) =
    (given _ Absent, (given _ Stale, (given _ Frozen, (given _ WrongKind, (given _ WrongStage, (given _ WrongParent, (stands _, (given _ Deep, (given _ Worn, tt)))))))))
numbered table (grow child seen base) =
    (given _ Absent, (given _ Stale, (given _ WrongKind, (given _ NotSame, (given _ WrongStage, (given _ WrongParent, (given _ TooTall, (given _ TableFull, (given _ Worn, tt)))))))))
numbered table (mark page seen parent) =
    (given _ Absent, (given _ Stale, (given _ Frozen, (given _ WrongKind, (given _ WrongStage, (given _ WrongParent, (given _ Leftmost, (given _ Deep, (given _ Worn, tt)))))))))
numbered table (merge left left_seen page page_seen) =
    (given _ Absent, (given _ Stale, (given _ Frozen, (given _ WrongKind, (given _ WrongStage, (given _ NotNeighbours, (given _ Deep, (given _ Worn, tt))))))))
numbered table (term_delete parent parent_seen child child_seen) =
    (given _ Absent, (given _ Stale, (given _ Frozen, (given _ WrongKind, (given _ WrongStage, (given _ WrongParent, (given _ Deep, (given _ Worn, tt))))))))

-- each number is above the one before
abbrev rising : ℕ → List ℕ → Bool
rising before [] = true
rising before (number ∷ numbers) = ltb before number && rising number numbers

-- which rise
refusals_rise : (step : Proposal) → rising 0 (refusals_of step) ≡ true
refusals_rise (insert page seen key value) = refl
refusals_rise (delete page seen key) = refl
refusals_rise (modify page seen key value) = refl
refusals_rise (consolidate page seen base) = refl
refusals_rise (split page seen separator base) = refl
refusals_rise (term_add parent parent_seen child child_seen) = refl
refusals_rise (grow child seen base) = refl
refusals_rise (mark page seen parent) = refl
refusals_rise (merge left left_seen page page_seen) = refl
refusals_rise (term_delete parent parent_seen child child_seen) = refl

-- the first reason is one of the list
first_applies : {R : Type 0} (os : List (Option R)) (reason : R) → first_reason os ≡ Some reason → (place : ℕ) × (slice_get os place ≡ Some (Some reason))
first_applies [] reason first = cc
first_applies (None ∷ os) reason first = let later = first_applies os reason first in (suc later.0, later.1)
first_applies (Some other ∷ os) reason first = (0, cc)

-- where there is no first reason, there is none
none_applies : {R : Type 0} (os : List (Option R)) → first_reason os ≡ None → (place : ℕ) (reason : R) → slice_get os place ≡ Some (Some reason) → ⊥
none_applies [] none place reason there = cc
none_applies (None ∷ os) none zero reason there = cc
none_applies (None ∷ os) none (suc place) reason there = none_applies os none place reason there
none_applies (Some other ∷ os) none place reason there = cc

-- every reason in a list has a number above those before the list
above : (before : ℕ) (numbers : List ℕ) (os : List (Option Refused)) → rising before numbers ≡ true → AreNumbered numbers os → (place : ℕ) (reason : Refused) → slice_get os place ≡ Some (Some reason) → before < number_of_refusal reason
above before [] [] rise are place reason there = cc
above before [] (o ∷ os) rise are place reason there = absurd are
above before (number ∷ numbers) [] rise are place reason there = absurd are
above before (number ∷ numbers) (None ∷ os) rise are zero reason there = cc
above before (number ∷ numbers) (Some other ∷ os) rise are zero reason there = let same : other ≡ reason = cc in rw (← same) (grind (arith, nat_tests, are.0))
above before (number ∷ numbers) (o ∷ os) rise are (suc place) reason there =
    let parts = and_parts (ltb before number) (rising number numbers) rise in
    omega (arith, ltb-true before number parts.0, above number numbers os parts.1 are.1 place reason there)

-- the first reason has the least number
least : (before : ℕ) (numbers : List ℕ) (os : List (Option Refused)) → rising before numbers ≡ true → AreNumbered numbers os → (reason other : Refused) → first_reason os ≡ Some reason → (place : ℕ) → slice_get os place ≡ Some (Some other) → number_of_refusal reason ≤ number_of_refusal other
least before [] [] rise are reason other first place there = cc
least before [] (o ∷ os) rise are reason other first place there = absurd are
least before (number ∷ numbers) [] rise are reason other first place there = absurd are
least before (number ∷ numbers) (None ∷ os) rise are reason other first zero there = cc
least before (number ∷ numbers) (None ∷ os) rise are reason other first (suc place) there =
    let parts = and_parts (ltb before number) (rising number numbers) rise in least number numbers os parts.1 are.1 reason other first place there
least before (number ∷ numbers) (Some one ∷ os) rise are reason other first zero there = let same : reason ≡ other = cc in rw same (omega arith)
least before (number ∷ numbers) (Some one ∷ os) rise are reason other first (suc place) there =
    let parts = and_parts (ltb before number) (rising number numbers) rise in
    let same : one ≡ reason = cc in
    rw (← same) (omega (arith, are.0, above number numbers os parts.1 are.1 place other there))

-- a step is refused for the least reason
pub refusal_law : RefusalLaw
refusal_law table step = record {
  numbered = numbered table step;
  applies = λ reason first. first_applies (reasons table step) reason first;
  least = λ reason other first applies. least 0 (refusals_of step) (reasons table step) (refusals_rise step) (numbered table step) reason other first applies.0 applies.1;
  none = λ none reason applies. none_applies (reasons table step) none applies.0 reason applies.1;
}
