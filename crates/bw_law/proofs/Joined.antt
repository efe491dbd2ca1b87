-- Entries joined over the pages of a row: they rise, and have what one of the pages has.
use Rattle.std.proofs.Common.{◌≡◌, ◌↔◌, ℕ, ◌≤◌, true, List, [], ◌∷◌, ◌++◌, Some, None, refl, sym, ◌∙◌, ap, subst, inl, inr, ⊎_elim, arith}
use Rattle.bw_delta.specs.Entries.{at, rises}
use Rattle.bw_law.specs.Rows.{Outline}
use Rattle.bw_law.specs.Walks.{Partitions, IsAmong}
use Rattle.bw_law.proofs.Lists.{or_else, option_cases, at-append, found-append, found_within, rises_joined}

abbrev pub joined : {X : Type 0} → (ℕ → List (ℕ × X)) → List ℕ → List (ℕ × X)
joined entries [] = []
joined entries (page ∷ row) = entries page ++ joined entries row

-- a page of the list has the entry
pub record HasOne {X : Type 0} (entries : ℕ → List (ℕ × X)) (row : List ℕ) (key : ℕ) (x : X) : Type 0 where
  pub page : ℕ
  pub among : IsAmong row page
  pub found : at key (entries page) ≡ Some x

module _ {X : Type 0} (pages : ℕ → Outline) (entries : ℕ → List (ℕ × X)) where
  -- what each page has rises in its range
  abbrev pub EachRises : List ℕ → Type 0
  EachRises row = (page : ℕ) → IsAmong row page → rises (pages page).low (pages page).high (entries page) ≡ true

  -- what is joined over a row rises
  pub joined_rise : (start top : ℕ) (row : List ℕ) → Partitions pages start top row → EachRises row → (start ≤ top) × (rises start top (joined entries row) ≡ true)
  joined_rise start top [] parts each = (omega (arith, parts), refl)
  joined_rise start top (page ∷ row) parts each =
      let rest = joined_rise (pages page).high top row parts.2 (λ x among. each x (inr among)) in
      let here : rises start (pages page).high (entries page) ≡ true = subst (λ low. rises low (pages page).high (entries page) ≡ true) parts.0 (each page (inl refl)) in (
        omega (arith, parts.0, parts.1, rest.0),
        rises_joined top start (pages page).high (entries page) (joined entries row) (omega (arith, parts.0, parts.1)) rest.0 here rest.1,
      )

  -- what it has, one of the pages has
  from_joined : (row : List ℕ) (key : ℕ) (x : X) → at key (joined entries row) ≡ Some x → HasOne entries row key x
  from_joined [] key x found = absurd (cc)
  from_joined (page ∷ row) key x found = ⊎_elim
      (λ (here : at key (entries page) ≡ Some x). record { page = page; among = inl refl; found = here })
      (λ (later : at key (joined entries row) ≡ Some x). let one = from_joined row key x later in record { page = one.page; among = inr one.among; found = one.found })
      (found-append (entries page) (joined entries row) key x found)

  -- the first page that has the key is the only one
  to_joined : (start top : ℕ) (row : List ℕ) → Partitions pages start top row → EachRises row → (key : ℕ) (x : X) → (page : ℕ) → IsAmong row page → at key (entries page) ≡ Some x → at key (joined entries row) ≡ Some x
  to_joined start top [] parts each key x page among found = absurd among
  to_joined start top (first ∷ row) parts each key x page among found = at-append (entries first) (joined entries row) key ∙ ⊎_elim
      (λ (is : page ≡ first). ap (λ o. or_else o (at key (joined entries row))) (ap (λ p. at key (entries p)) (sym is) ∙ found))
      (λ (later : IsAmong row page).
      let there = to_joined (pages first).high top row parts.2 (λ p a. each p (inr a)) key x page later found in
      let past = found_within (pages first).high top key x (joined entries row) (joined_rise (pages first).high top row parts.2 (λ p a. each p (inr a))).1 there in
      ap (λ o. or_else o (at key (joined entries row))) (not_first first key (each first (inl refl)) past.0) ∙ there)
      among
    where
      not_first : (first key : ℕ) → rises (pages first).low (pages first).high (entries first) ≡ true → (pages first).high ≤ key → at key (entries first) ≡ None
      not_first first key rise past = ⊎_elim
          (λ (none : at key (entries first) ≡ None). none)
          (λ (some : (x : X) × (at key (entries first) ≡ Some x)). absurd (omega (arith, past, found_within (pages first).low (pages first).high key some.0 (entries first) rise some.1)))
          (option_cases (at key (entries first)))

  -- what is joined over a row has just what one of its pages has
  pub joined_has : (start top : ℕ) (row : List ℕ) → Partitions pages start top row → EachRises row → (key : ℕ) (x : X) → (at key (joined entries row) ≡ Some x) ↔ HasOne entries row key x
  joined_has start top row parts each key x = (from_joined row key x, λ one. to_joined start top row parts each key x one.page one.among one.found)
