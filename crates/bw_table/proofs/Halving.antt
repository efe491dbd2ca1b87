-- A page that is split in half where it lies is refused for no reason but those that are looked at first.
use Rattle.std.proofs.Common.{◌≡◌, ℕ, ◌<◌, ◌≤◌, Bool, true, false, List, [], ◌∷◌, ◌++◌, Option, Some, None, Result, Ok, Err, unwrap_or, ◌↔◌, ap, refl, sym, subst, ◌∙◌, arith}
use Rattle.std.proofs.lemmas.Bool.Decides.{nat_tests}
use Rattle.std.specs.Prelude.{nat_lt, is_none}
use Rattle.bw_keys.specs.Reasons.{when, first_reason}
use Rattle.bw_delta.specs.Pages.{Page, Listed, listed_length, upper_part}
use Rattle.bw_delta.specs.Records.{Records, depth}
use Rattle.bw_chain.specs.Pages.Halves.{listed_middle_key}
use Rattle.bw_delta.specs.Entries.{at}
use Rattle.bw_delta.specs.Sound.{page_for}
use Rattle.bw_step.specs.declared.refused.Refused.{Refused}
use Rattle.bw_step.specs.declared.refused.Refused.TheVariants.{OutOfRange, NotBare, BadSeparator}
use Rattle.bw_step.specs.Stages.{is_in_row}
use Rattle.bw_law.specs.Refusals.{refusal, open_reasons, is_other_kind, is_outside, is_bad_key, is_leaving_at, room_reasons, new_id, last_id}
use Rattle.bw_law.specs.Slots.{SlotValue, chain_in, routes_in}
use Rattle.bw_law.specs.Tables.{TableValue, Lawful, IsPageOf, slot_at}
use Rattle.bw_law.proofs.SameTests.{same_page_tells}
use Rattle.bw_table.specs.Answers.{fine_unless}
use Rattle.bw_table.specs.InPlaces.{half_reasons, halving, halving_reasons}
use Rattle.bw_table.proofs.Consolidating.{none_at_all, the_reason, not_absent, kind_of_page}
use Rattle.bw_table.proofs.InPlaces.{upper_lists_alike}

-- a reason that doesn't hold changes nothing among others that don't
none_among : (before rest : List (Option Refused)) (here : Option Refused) → first_reason (before ++ rest) ≡ None → here ≡ None → first_reason (before ++ here ∷ rest) ≡ None
none_among [] rest here is none = rw none is
none_among (None ∷ before) rest here is none = none_among before rest here is none
none_among (Some reason ∷ before) rest here is none = absurd (cc is)

-- reasons that don't hold, before others that don't
none_then : (before rest : List (Option Refused)) → first_reason before ≡ None → first_reason rest ≡ None → first_reason (before ++ rest) ≡ None
none_then [] rest is none = none
none_then (None ∷ before) rest is none = none_then before rest is none
none_then (Some reason ∷ before) rest is none = absurd (cc is)

-- a reason that holds is found whatever follows
pub first_stays : (before rest : List (Option Refused)) (reason : Refused) → first_reason before ≡ Some reason → first_reason (before ++ rest) ≡ Some reason
first_stays [] rest reason is = absurd (cc is)
first_stays (None ∷ before) rest reason is = first_stays before rest reason is
first_stays (Some first ∷ before) rest reason is = is

-- where none holds, the first one that does follows
pub first_follows : (before rest : List (Option Refused)) → first_reason before ≡ None → first_reason (before ++ rest) ≡ first_reason rest
first_follows [] rest none = refl
first_follows (None ∷ before) rest none = first_follows before rest none
first_follows (Some reason ∷ before) rest none = absurd (cc none)

-- a page with a middle key has two entries
has_two : (key : Option ℕ) (entries : ℕ) → ((key ≡ None) ↔ (entries < 2)) → is_none key ≡ false → 2 ≤ entries
has_two key entries small there = by_test (nat_lt entries 2) refl where
  by_test : (few : Bool) → nat_lt entries 2 ≡ few → 2 ≤ entries
  by_test true is =
      let few : entries < 2 = grind (arith, nat_tests) in
      let none : key ≡ None = small.1 few in
      absurd (cc (none, there))
  by_test false is = grind (arith, nat_tests)

module _ (table : TableValue) (page seen : ℕ) (law : Lawful table) where
  abbrev its : SlotValue
  its = slot_at table page

  abbrev its_listed : Listed
  its_listed = (page_for (chain_in its)).listed

  abbrev middle : ℕ
  middle = unwrap_or (listed_middle_key its_listed) 0

  abbrev reasons_there : List (Option Refused)
  reasons_there = halving_reasons its (slot_at table (new_id table)) (is_leaving_at table.slots (at middle (routes_in its))) (is_none (last_id table.free)) middle

  -- a page that isn't open is refused for that reason
  pub not_open : (reason : Refused) → Err reason ≡ fine_unless (first_reason (open_reasons its seen)) → first_reason (half_reasons table page seen) ≡ Some reason
  not_open reason reported = first_stays (open_reasons its seen) _ reason (the_reason reason _ reported)

  module _ (opens : Ok _ ≡ fine_unless (first_reason (open_reasons its seen))) where
    chain_there : (chain : Records) × IsPageOf its chain
    chain_there = law.pages page (not_absent (is_in_row its.stage) _ (none_at_all _ opens))

    has_depth : (depth_is : ℕ) → depth chain_there.0 ≡ depth_is → its.depth ≡ depth_is
    has_depth depth_is is = chain_there.1.depth ∙ is

    -- an open page with records is not bare
    pub under_records : ((records : Records) → its.chain ≡ Some records → 0 < depth records) → first_reason (half_reasons table page seen) ≡ Some NotBare
    under_records deep =
        let some : 0 < its.depth = subst (λ d. 0 < d) (sym chain_there.1.depth) (deep chain_there.0 chain_there.1.its_chain) in
        let yes : nat_lt 0 its.depth ≡ true = grind (arith, nat_tests) in
        first_follows (open_reasons its seen) _ (none_at_all _ opens) ∙ rw yes refl

    module _ (bare : (records : Records) → its.chain ≡ Some records → depth records ≡ 0) where
      no : nat_lt 0 its.depth ≡ false
      no = rw (has_depth 0 (bare chain_there.0 chain_there.1.its_chain)) refl

      -- a bare one with fewer than two entries has no separator
      pub too_small : listed_length its_listed < 2 → first_reason (half_reasons table page seen) ≡ Some BadSeparator
      too_small few =
          let yes : nat_lt (listed_length its_listed) 2 ≡ true = grind (arith, nat_tests) in
          first_follows (open_reasons its seen) _ (none_at_all _ opens) ∙ rw (no, yes) refl

      -- any other is refused for a reason against the middle
      pub by_middle : (2 ≤ listed_length its_listed) → first_reason (half_reasons table page seen) ≡ first_reason reasons_there
      by_middle enough =
          let not_few : nat_lt (listed_length its_listed) 2 ≡ false = grind (arith, nat_tests) in
          first_follows (open_reasons its seen) _ (none_at_all _ opens) ∙ rw (no, not_few) refl

      -- so what is answered to the middle is the answer
      pub by_the_middle : (separator : ℕ) (answer : Result (Unit {0}) Refused) → listed_middle_key its_listed ≡ Some separator → ((Some separator ≡ None) ↔ (listed_length its_listed < 2))
          → answer ≡ fine_unless (first_reason (halving_reasons its (slot_at table (new_id table)) (is_leaving_at table.slots (at separator (routes_in its))) (is_none (last_id table.free)) separator))
          → answer ≡ fine_unless (first_reason (half_reasons table page seen))
      by_the_middle separator answer key small is =
          is ∙ (ap (λ s. fine_unless (first_reason (halving_reasons its (slot_at table (new_id table)) (is_leaving_at table.slots (at s (routes_in its))) (is_none (last_id table.free)) s))) (ap (λ o. unwrap_or o 0) (sym key))
          ∙ ap fine_unless (sym (by_middle (has_two (Some separator) (listed_length its_listed) small refl))))

module _ (table : TableValue) (page seen separator : ℕ) (law : Lawful table) where
  abbrev slot : SlotValue
  slot = slot_at table page

  abbrev upper : Page
  upper = upper_part separator (page_for (chain_in slot))

  abbrev leaving : Bool
  leaving = is_leaving_at table.slots (at separator (routes_in slot))

  abbrev first_three : List (Option Refused)
  first_three = when (is_outside slot separator) OutOfRange ∷ when (nat_lt 0 slot.depth) NotBare ∷ when (is_bad_key slot leaving separator) BadSeparator ∷ []

  -- the upper part of the page is accepted
  pub halving_is_accepted : Ok _ ≡ fine_unless (first_reason (open_reasons slot seen))
      → Ok _ ≡ fine_unless (first_reason (halving_reasons slot (slot_at table (new_id table)) leaving (is_none (last_id table.free)) separator))
      → refusal table (halving table page seen separator) ≡ None
  halving_is_accepted opens fine =
      let none = none_at_all (first_reason (open_reasons slot seen)) opens in
      let rest = none_at_all (first_reason (halving_reasons slot (slot_at table (new_id table)) leaving (is_none (last_id table.free)) separator)) fine in
      let kind : is_other_kind upper slot ≡ false = rw (upper_lists_alike separator (page_for (chain_in slot)).listed) (kind_of_page table page law (not_absent (is_in_row slot.stage) _ none)) in
      let room = room_reasons slot (slot_at table (new_id table)) (is_none (last_id table.free)) in
      none_then (open_reasons slot seen) _ none
      (none_among [] _ (when (is_other_kind upper slot) _) (none_among first_three room _ rest (rw (same_page_tells upper upper refl) refl)) (rw kind refl))
