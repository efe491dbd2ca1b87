-- What holds of the slots that an accepted step names, one record for each kind of step.
use Rattle.std.proofs.Common.{◌≡◌, ◌≢◌, ℕ, ◌+◌, ◌-◌, ◌<◌, ◌≤◌, Bool, true, false, max, eqb, List, [], ◌∷◌, Option, Some, None, is_none, refl, arith}
use Rattle.std.specs.Prelude.{option_map, unwrap_or}
use Rattle.std.proofs.lemmas.Bool.Decides.{nat_tests}
use Rattle.bw_keys.specs.declared.page.TheConstants.{MAX_DEPTH, MAX_LEVEL}
use Rattle.bw_keys.specs.Ranges.{end_of}
use Rattle.bw_keys.specs.Reasons.{when, first_reason}
use Rattle.bw_delta.specs.Entries.{at}
use Rattle.bw_delta.specs.Pages.{Page, lists_pairs}
use Rattle.bw_delta.specs.Sound.{page_for}
use Rattle.bw_step.specs.declared.refused.Refused.TheVariants.{Present, TermStands}
use Rattle.bw_step.specs.declared.view.Stage.TheVariants.{Unposted, Posted, Marked, Merged}
use Rattle.bw_step.specs.Stages.{is_in_row}
use Rattle.bw_step.specs.Proposals.{insert, consolidate, split, term_add, grow, mark, merge, term_delete}
use Rattle.bw_law.specs.Slots.{SlotValue, chain_in, pairs_in, routes_in, last_number}
use Rattle.bw_law.specs.Tables.{TableValue, slot_at, number_of}
use Rattle.bw_delta.specs.Pages.{upper_part}
use Rattle.bw_law.specs.Refusals.{last_id, new_id, is_bad_separator, root_page, found_reasons, reasons, refusal}
use Rattle.bw_law.proofs.SameTests.{same_page, same_link}

-- each is none
abbrev pub AllNone : {R : Type 0} → List (Option R) → Type 0
AllNone [] = Unit {0}
AllNone (o ∷ os) = (o ≡ None) × AllNone os

-- there is no first reason only where there is none
pub all_none : {R : Type 0} (os : List (Option R)) → first_reason os ≡ None → AllNone os
all_none [] none = tt
all_none (None ∷ os) none = (refl, all_none os none)
all_none (Some reason ∷ os) none = cc

-- the keys from the slot's low on and below its high
abbrev pub Holds : SlotValue → ℕ → Type 0
Holds slot key = (slot.low ≤ key) × (key < end_of slot.high)

-- a page in a row that isn't being removed, and whose version is the one seen and can rise
pub record IsOpen (slot : SlotValue) (seen : ℕ) : Type 0 where
  pub in_row : is_in_row slot.stage ≡ true
  pub staying : slot.stage ≢ Marked
  pub fresh : slot.version ≡ seen
  pub rises : slot.version ≢ last_number

-- what Insert, Delete and Modify ask for alike
pub record MayChange (table : TableValue) (page seen key : ℕ) : Type 0 where
  pub open_page : IsOpen (slot_at table page) seen
  pub leaf : (slot_at table page).level ≡ 0
  pub range : Holds (slot_at table page) key
  pub shallow : (slot_at table page).depth < MAX_DEPTH
  pub number : number_of table.book ≢ last_number

pub record MayInsert (table : TableValue) (page seen key : ℕ) : Type 0 where
  pub change : MayChange table page seen key
  pub absent : at key (pairs_in (slot_at table page)) ≡ None

-- what Delete and Modify ask for alike: the key is there
pub record MayChangeFound (table : TableValue) (page seen key : ℕ) : Type 0 where
  pub change : MayChange table page seen key
  pub value : ℕ
  pub present : at key (pairs_in (slot_at table page)) ≡ Some value

pub record MayConsolidate (table : TableValue) (page seen : ℕ) (base : Page) : Type 0 where
  pub open_page : IsOpen (slot_at table page) seen
  pub kind : lists_pairs base.listed ≡ eqb (slot_at table page).level 0
  pub same : base ≡ page_for (chain_in (slot_at table page))

pub record MaySplit (table : TableValue) (page seen separator : ℕ) (base : Page) : Type 0 where
  pub open_page : IsOpen (slot_at table page) seen
  pub kind : lists_pairs base.listed ≡ eqb (slot_at table page).level 0
  pub range : Holds (slot_at table page) separator
  pub bare_page : (slot_at table page).depth ≡ 0
  pub good_separator : is_bad_separator table.slots (slot_at table page) separator ≡ false
  pub same : base ≡ upper_part separator (page_for (chain_in (slot_at table page)))
  pub room : last_id table.free ≡ Some (new_id table)
  pub new_rises : (slot_at table (new_id table)).version ≢ last_number

-- what TermAdd and TermDelete ask of the parent alike
pub record MayChangeTerm (table : TableValue) (parent parent_seen child child_seen : ℕ) : Type 0 where
  pub open_parent : IsOpen (slot_at table parent) parent_seen
  pub child_fresh : (slot_at table child).version ≡ child_seen
  pub child_rises : (slot_at table child).version ≢ last_number
  pub above : (slot_at table parent).level ≡ (slot_at table child).level + 1
  pub range : Holds (slot_at table parent) (slot_at table child).low
  pub shallow : (slot_at table parent).depth < MAX_DEPTH

pub record MayTermAdd (table : TableValue) (parent parent_seen child child_seen : ℕ) : Type 0 where
  pub change : MayChangeTerm table parent parent_seen child child_seen
  pub unposted : (slot_at table child).stage ≡ Unposted
  pub no_term : at (slot_at table child).low (routes_in (slot_at table parent)) ≡ None

pub record MayTermDelete (table : TableValue) (parent parent_seen child child_seen : ℕ) : Type 0 where
  pub change : MayChangeTerm table parent parent_seen child child_seen
  pub merged : (slot_at table child).stage ≡ Merged

pub record MayGrow (table : TableValue) (child seen : ℕ) (base : Page) : Type 0 where
  pub fresh : (slot_at table child).version ≡ seen
  pub rises : (slot_at table child).version ≢ last_number
  pub unposted : (slot_at table child).stage ≡ Unposted
  pub beside : (slot_at table child).level ≡ (slot_at table table.root).level
  pub same : base ≡ root_page table.root (slot_at table child).low child
  pub not_tall : (slot_at table table.root).level < MAX_LEVEL
  pub room : last_id table.free ≡ Some (new_id table)
  pub new_rises : (slot_at table (new_id table)).version ≢ last_number

pub record MayMark (table : TableValue) (page seen parent : ℕ) : Type 0 where
  pub fresh : (slot_at table page).version ≡ seen
  pub rises : (slot_at table page).version ≢ last_number
  pub posted : (slot_at table page).stage ≡ Posted
  pub parent_in : is_in_row (slot_at table parent).stage ≡ true
  pub above : (slot_at table parent).level ≡ (slot_at table page).level + 1
  pub range : Holds (slot_at table parent) (slot_at table page).low
  pub not_first : (slot_at table page).low ≢ (slot_at table parent).low
  pub shallow : (slot_at table page).depth ≤ MAX_DEPTH - 2

pub record MayMerge (table : TableValue) (left left_seen page page_seen : ℕ) : Type 0 where
  pub open_left : IsOpen (slot_at table left) left_seen
  pub fresh : (slot_at table page).version ≡ page_seen
  pub rises : (slot_at table page).version ≢ last_number
  pub marked : (slot_at table page).stage ≡ Marked
  pub beside : (slot_at table left).level ≡ (slot_at table page).level
  pub link : (slot_at table left).right ≡ Some (record { 0 = page })
  pub shallow : max (slot_at table left).depth (slot_at table page).depth < MAX_DEPTH

-- a reason that doesn't apply has a test that fails
pub not_when : {R : Type 0} (test : Bool) (reason : R) → when test reason ≡ None → test ≡ false
not_when true reason none = cc
not_when false reason none = refl

-- what is there has a value
present_value : (o : Option ℕ) → is_none o ≡ false → (value : ℕ) × (o ≡ Some value)
present_value None some = cc
present_value (Some value) some = (value, refl)

-- what is there is what `unwrap_or` returns
given_id : (o : Option ℕ) → is_none o ≡ false → o ≡ Some (unwrap_or o 0)
given_id None some = cc
given_id (Some id) some = refl

-- a reason that carries a value applies only where there is one
no_present : {X R : Type 0} (f : X → R) (o : Option X) → option_map f o ≡ None → o ≡ None
no_present f None none = refl
no_present f (Some x) none = cc

-- what is known of the slots when no reason speaks against the step
pub insert_accepted : (table : TableValue) (page seen key value : ℕ) → refusal table (insert page seen key value) ≡ None → MayInsert table page seen key
insert_accepted table page seen key value none =
    let (absent, (stale, (frozen, (kind, (range, (present, (deep, (worn, _)))))))) = all_none (reasons table (insert page seen key value)) none in
    record {
      change = record {
        open_page = record { in_row = grind arith; staying = λ marked. grind arith; fresh = grind (arith, nat_tests); rises = λ last. grind (arith, nat_tests) };
        leaf = grind (arith, nat_tests);
        range = (grind (arith, nat_tests), grind (arith, nat_tests));
        shallow = grind (arith, nat_tests);
        number = λ last. grind (arith, nat_tests);
      };
      absent = no_present Present _ present;
    }

pub found_accepted : (table : TableValue) (page seen key : ℕ) → first_reason (found_reasons (slot_at table page) (number_of table.book) seen key) ≡ None → MayChangeFound table page seen key
found_accepted table page seen key none =
    let (absent, (stale, (frozen, (kind, (range, (no_key, (deep, (worn, _)))))))) = all_none (found_reasons (slot_at table page) (number_of table.book) seen key) none in
    let found = present_value (at key (pairs_in (slot_at table page))) (grind arith) in
    record {
      change = record {
        open_page = record { in_row = grind arith; staying = λ marked. grind arith; fresh = grind (arith, nat_tests); rises = λ last. grind (arith, nat_tests) };
        leaf = grind (arith, nat_tests);
        range = (grind (arith, nat_tests), grind (arith, nat_tests));
        shallow = grind (arith, nat_tests);
        number = λ last. grind (arith, nat_tests);
      };
      value = found.0;
      present = found.1;
    }

pub consolidate_accepted : (table : TableValue) (page seen : ℕ) (base : Page) → refusal table (consolidate page seen base) ≡ None → MayConsolidate table page seen base
consolidate_accepted table page seen base none =
    let (absent, (stale, (frozen, (kind, (not_same, (worn, _)))))) = all_none (reasons table (consolidate page seen base)) none in
    record {
      open_page = record { in_row = grind arith; staying = λ marked. grind arith; fresh = grind (arith, nat_tests); rises = λ last. grind (arith, nat_tests) };
      kind = grind (arith, nat_tests);
      same = same_page base (page_for (chain_in (slot_at table page))) (grind arith);
    }

pub split_accepted : (table : TableValue) (page seen separator : ℕ) (base : Page) → refusal table (split page seen separator base) ≡ None → MaySplit table page seen separator base
split_accepted table page seen separator base none =
    let (absent, (stale, (frozen, (kind, (range, (not_bare, (bad, (not_same, (full, (worn, _)))))))))) = all_none (reasons table (split page seen separator base)) none in
    record {
      open_page = record { in_row = grind arith; staying = λ marked. grind arith; fresh = grind (arith, nat_tests); rises = λ last. grind (arith, nat_tests) };
      kind = grind (arith, nat_tests);
      range = (grind (arith, nat_tests), grind (arith, nat_tests));
      bare_page = grind (arith, nat_tests);
      good_separator = not_when _ _ bad;
      same = same_page base (upper_part separator (page_for (chain_in (slot_at table page)))) (grind arith);
      room = given_id (last_id table.free) (grind arith);
      new_rises = λ last. grind (arith, nat_tests);
    }

pub term_add_accepted : (table : TableValue) (parent parent_seen child child_seen : ℕ) → refusal table (term_add parent parent_seen child child_seen) ≡ None → MayTermAdd table parent parent_seen child child_seen
term_add_accepted table parent parent_seen child child_seen none =
    let (absent, (stale, (frozen, (kind, (stage, (range, (stands, (deep, (worn, _))))))))) = all_none (reasons table (term_add parent parent_seen child child_seen)) none in
    record {
      change = record {
        open_parent = record { in_row = grind arith; staying = λ marked. grind arith; fresh = grind (arith, nat_tests); rises = λ last. grind (arith, nat_tests) };
        child_fresh = grind (arith, nat_tests);
        child_rises = λ last. grind (arith, nat_tests);
        above = grind (arith, nat_tests);
        range = (grind (arith, nat_tests), grind (arith, nat_tests));
        shallow = grind (arith, nat_tests);
      };
      unposted = grind arith;
      no_term = no_present TermStands _ stands;
    }

pub grow_accepted : (table : TableValue) (child seen : ℕ) (base : Page) → refusal table (grow child seen base) ≡ None → MayGrow table child seen base
grow_accepted table child seen base none =
    let (absent, (stale, (kind, (not_same, (stage, (parent, (tall, (full, (worn, _))))))))) = all_none (reasons table (grow child seen base)) none in
    record {
      fresh = grind (arith, nat_tests);
      rises = λ last. grind (arith, nat_tests);
      unposted = grind arith;
      beside = grind (arith, nat_tests);
      same = same_page base (root_page table.root (slot_at table child).low child) (grind arith);
      not_tall = grind (arith, nat_tests);
      room = given_id (last_id table.free) (grind arith);
      new_rises = λ last. grind (arith, nat_tests);
    }

pub mark_accepted : (table : TableValue) (page seen parent : ℕ) → refusal table (mark page seen parent) ≡ None → MayMark table page seen parent
mark_accepted table page seen parent none =
    let (absent, (stale, (frozen, (kind, (stage, (range, (leftmost, (deep, (worn, _))))))))) = all_none (reasons table (mark page seen parent)) none in
    record {
      fresh = grind (arith, nat_tests);
      rises = λ last. grind (arith, nat_tests);
      posted = grind arith;
      parent_in = grind arith;
      above = grind (arith, nat_tests);
      range = (grind (arith, nat_tests), grind (arith, nat_tests));
      not_first = λ first. grind (arith, nat_tests);
      shallow = grind (arith, nat_tests);
    }

pub merge_accepted : (table : TableValue) (left left_seen page page_seen : ℕ) → refusal table (merge left left_seen page page_seen) ≡ None → MayMerge table left left_seen page page_seen
merge_accepted table left left_seen page page_seen none =
    let (absent, (stale, (frozen, (kind, (stage, (neighbours, (deep, (worn, _)))))))) = all_none (reasons table (merge left left_seen page page_seen)) none in
    record {
      open_left = record { in_row = grind arith; staying = λ marked. grind arith; fresh = grind (arith, nat_tests); rises = λ last. grind (arith, nat_tests) };
      fresh = grind (arith, nat_tests);
      rises = λ last. grind (arith, nat_tests);
      marked = grind arith;
      beside = grind (arith, nat_tests);
      link = same_link (slot_at table left).right (Some (record { 0 = page })) (grind arith);
      shallow = grind (arith, nat_tests);
    }

pub term_delete_accepted : (table : TableValue) (parent parent_seen child child_seen : ℕ) → refusal table (term_delete parent parent_seen child child_seen) ≡ None → MayTermDelete table parent parent_seen child child_seen
term_delete_accepted table parent parent_seen child child_seen none =
    let (absent, (stale, (frozen, (kind, (stage, (range, (deep, (worn, _)))))))) = all_none (reasons table (term_delete parent parent_seen child child_seen)) none in
    record {
      change = record {
        open_parent = record { in_row = grind arith; staying = λ marked. grind arith; fresh = grind (arith, nat_tests); rises = λ last. grind (arith, nat_tests) };
        child_fresh = grind (arith, nat_tests);
        child_rises = λ last. grind (arith, nat_tests);
        above = grind (arith, nat_tests);
        range = (grind (arith, nat_tests), grind (arith, nat_tests));
        shallow = grind (arith, nat_tests);
      };
      merged = grind arith;
    }
