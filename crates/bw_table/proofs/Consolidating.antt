-- A page that is made anew where it lies is refused for no reason but those that are looked at first.
use Rattle.std.proofs.Common.{◌≡◌, ℕ, Bool, true, false, not, ◌||◌, List, [], ◌∷◌, ◌++◌, Option, Some, None, Ok, Err, refl, sym, ap, ◌∙◌}
use Rattle.std.specs.Prelude.{unwrap_or, IfSome}
use Rattle.bw_keys.specs.Reasons.{when, first_reason}
use Rattle.bw_delta.specs.Pages.{Page, lists_pairs}
use Rattle.bw_delta.specs.Records.{Records, bare}
use Rattle.bw_delta.specs.Sound.{page_for}
use Rattle.bw_step.specs.declared.refused.Refused.{Refused}
use Rattle.bw_step.specs.declared.refused.Refused.TheVariants.{Absent}
use Rattle.bw_step.specs.Stages.{is_in_row}
use Rattle.bw_law.specs.Refusals.{open_reasons, worn, is_other_kind, consolidate_reasons}
use Rattle.bw_law.specs.Slots.{SlotValue, chain_in, empty_page}
use Rattle.bw_law.specs.Tables.{TableValue, Lawful, slot_at}
use Rattle.bw_law.proofs.SameTests.{same_page_tells}
use Rattle.bw_table.specs.Answers.{fine_unless}
use Rattle.bw_table.proofs.InPlaces.{kind_fits, lists_as_the_chain}

-- two reasons that don't hold change nothing before the last one
none_between : (before : List (Option Refused)) (a b last : Option Refused) → first_reason (before ++ last ∷ []) ≡ None → a ≡ None → b ≡ None → first_reason (before ++ a ∷ b ∷ last ∷ []) ≡ None
none_between [] a b last is no_a no_b = rw (no_a, no_b) is
none_between (None ∷ before) a b last is no_a no_b = none_between before a b last is no_a no_b
none_between (Some reason ∷ before) a b last is no_a no_b = absurd (cc is)

-- the reason that is found first stays the first where others that don't hold are put before the last one
some_between : (before : List (Option Refused)) (a b last : Option Refused) (reason : Refused) → (first_reason before ≡ None → (a ≡ None) × (b ≡ None))
    → first_reason (before ++ last ∷ []) ≡ Some reason → first_reason (before ++ a ∷ b ∷ last ∷ []) ≡ Some reason
some_between [] a b last reason none is = rw ((none refl).0, (none refl).1) is
some_between (None ∷ before) a b last reason none is = some_between before a b last reason none is
some_between (Some first ∷ before) a b last reason none is = is

its_own : (chain : Option Records) → IfSome chain (λ own. page_for (unwrap_or chain (bare empty_page)) ≡ page_for own)
its_own None = tt
its_own (Some own) = refl

pub the_reason : (reason : Refused) (found : Option Refused) → Err reason ≡ fine_unless found → found ≡ Some reason
the_reason reason None is = absurd (cc is)
the_reason reason (Some first) is = cc is

pub none_at_all : (reason : Option Refused) → Ok _ ≡ fine_unless reason → reason ≡ None
none_at_all None is = refl
none_at_all (Some reason) is = absurd (cc is)

pub not_absent : (in_row : Bool) (rest : List (Option Refused)) → first_reason (when (not in_row || false) Absent ∷ rest) ≡ None → in_row ≡ true
not_absent true rest is = refl
not_absent false rest is = absurd (cc is)

module _ (table : TableValue) (page : ℕ) (law : Lawful table) (here : is_in_row (slot_at table page).stage ≡ true) where
  -- the page of a row is of its level's kind
  pub kind_of_page : is_other_kind (page_for (chain_in (slot_at table page))) (slot_at table page) ≡ false
  kind_of_page =
      let own = law.pages page here in
      let chain_is : chain_in (slot_at table page) ≡ own.0 = ap (λ (c : Option Records). unwrap_or c (bare empty_page)) own.1.its_chain in
      ap (λ c. is_other_kind (page_for c) (slot_at table page)) chain_is ∙ kind_fits (lists_pairs (page_for own.0).listed) (slot_at table page).level (lists_as_the_chain own.0 ∙ own.1.kind)

module _ (table : TableValue) (page seen : ℕ) (base : Page) (law : Lawful table) where
  abbrev slot : SlotValue
  slot = slot_at table page

  -- the page that was made anew of the chain is accepted
  pub anew_is_accepted : Ok _ ≡ fine_unless (first_reason (open_reasons slot seen ++ worn (slot ∷ []) ∷ [])) → IfSome slot.chain (λ chain. base ≡ page_for chain) → first_reason (consolidate_reasons slot seen base) ≡ None
  anew_is_accepted fine made =
      let none = none_at_all (first_reason (open_reasons slot seen ++ worn (slot ∷ []) ∷ [])) fine in
      let here = not_absent (is_in_row slot.stage) _ none in
      let own = law.pages page here in
      let chain_is : chain_in slot ≡ own.0 = ap (λ (c : Option Records). unwrap_or c (bare empty_page)) own.1.its_chain in
      let same : base ≡ page_for (chain_in slot) = (rw own.1.its_chain at made) ∙ ap page_for (sym chain_is) in
      let kind : is_other_kind base slot ≡ false = ap (λ p. is_other_kind p slot) same ∙ kind_of_page table page law here in
      none_between (open_reasons slot seen) _ _ (worn (slot ∷ [])) none (rw kind refl) (rw (same_page_tells base (page_for (chain_in slot)) same) refl)

module _ (table : TableValue) (page seen : ℕ) (law : Lawful table) where
  abbrev its : SlotValue
  its = slot_at table page

  -- a page that is refused so is for the reason that was looked at first
  pub anew_is_refused : (reason : Refused) → Err reason ≡ fine_unless (first_reason (open_reasons its seen ++ worn (its ∷ []) ∷ [])) → first_reason (consolidate_reasons its seen (page_for (chain_in its))) ≡ Some reason
  anew_is_refused reason reported =
      some_between (open_reasons its seen) _ _ (worn (its ∷ [])) reason
      (λ none.
      let kind : is_other_kind (page_for (chain_in its)) its ≡ false = kind_of_page table page law (not_absent (is_in_row its.stage) _ none) in
      (rw kind refl, rw (same_page_tells (page_for (chain_in its)) (page_for (chain_in its)) refl) refl))
      (the_reason reason _ reported)

  -- and is accepted as it is, otherwise
  pub as_it_is_accepted : Ok _ ≡ fine_unless (first_reason (open_reasons its seen ++ worn (its ∷ []) ∷ [])) → first_reason (consolidate_reasons its seen (page_for (chain_in its))) ≡ None
  as_it_is_accepted fine = anew_is_accepted table page seen (page_for (chain_in its)) law fine (its_own its.chain)
