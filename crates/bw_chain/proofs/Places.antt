-- The place of a key among rising entries, which is the number of those below it: what stands there, and what a change there makes.
use Rattle.std.proofs.Common.{◌≡◌, ◌≢◌, ℕ, ◌+◌, ◌<◌, ◌≤◌, true, List, [], ◌∷◌, length, get_or, set, refl, ap, sym, ◌∙◌, arith, inl, inr}
use Rattle.std.specs.List.{insert, remove}
use Rattle.std.specs.Prelude.{Some, None}
use Rattle.std.proofs.lemmas.Bool.Decides.{nat_tests, leb_tells}
use Rattle.bw_delta.specs.Entries.{at, rises, below, put, without}
use Rattle.bw_keys.specs.Ranges.{key_count}
use Rattle.bw_chain.specs.Ascends.{IsAscending}
use Rattle.bw_chain.proofs.Firsts.{at-before}
use Rattle.bw_chain.proofs.Lasts.{below_low}

module _ {X : Type 0} where
  -- the entry at the place has the key
  pub at-place : (low end key : ℕ) (d : ℕ × X) (es : List (ℕ × X)) → rises low end es ≡ true → length (below key es) < length es → (get_or es (length (below key es)) d).0 ≡ key → at key es ≡ Some (get_or es (length (below key es)) d).1
  at-place low end key d [] h inside here = absurd (omega arith)
  at-place low end key d (e ∷ es) h inside here =
      let rest : rises (e.0 + 1) end es ≡ true = grind (arith, nat_tests) in
      elim (leb_tells key e.0) [
        | inl past ↦ grind (arith, nat_tests, past.1, below_low (e.0 + 1) end key es)
        | inr first ↦ grind (arith, nat_tests, first.1, at-place (e.0 + 1) end key d es rest)
      ]

  -- the entry at the place has another key
  pub at-other_place : (low end key : ℕ) (d : ℕ × X) (es : List (ℕ × X)) → rises low end es ≡ true → length (below key es) < length es → (get_or es (length (below key es)) d).0 ≢ key → at key es ≡ None
  at-other_place low end key d [] h inside other = refl
  at-other_place low end key d (e ∷ es) h inside other =
      let rest : rises (e.0 + 1) end es ≡ true = grind (arith, nat_tests) in
      elim (leb_tells key e.0) [
        | inl past ↦ grind (arith, nat_tests, past.1, below_low (e.0 + 1) end key es, at-before (e.0 + 1) end key es)
        | inr first ↦ grind (arith, nat_tests, first.1, at-other_place (e.0 + 1) end key d es rest)
      ]

  -- every entry lies below the key
  pub at-no_place : (low end key : ℕ) (es : List (ℕ × X)) → rises low end es ≡ true → length es ≤ length (below key es) → at key es ≡ None
  at-no_place low end key [] h past = refl
  at-no_place low end key (e ∷ es) h past =
      let rest : rises (e.0 + 1) end es ≡ true = grind (arith, nat_tests) in
      elim (leb_tells key e.0) [
        | inl le ↦ grind (arith, nat_tests, le.1, below_low (e.0 + 1) end key es)
        | inr first ↦ grind (arith, nat_tests, first.1, at-no_place (e.0 + 1) end key es rest)
      ]

  -- what an entry read at the place says
  pub at-read : (key place : ℕ) (e : ℕ × X) (es : List (ℕ × X)) → IsAscending es → place ≡ length (below key es) → place < length es → e ≡ get_or es place e → e.0 ≡ key → Some e.1 ≡ at key es
  at-read key place e es h is inside read here =
      let there : e ≡ get_or es (length (below key es)) e = rw (← is) read in
      let its_key : (get_or es (length (below key es)) e).0 ≡ key = rw (← there) here in
      ap (λ (d : ℕ × X). Some d.1) there ∙ sym (at-place 0 key_count key e es h (rw (← is) inside) its_key)

  pub at-read_other : (key place : ℕ) (e : ℕ × X) (es : List (ℕ × X)) → IsAscending es → place ≡ length (below key es) → place < length es → e ≡ get_or es place e → e.0 ≢ key → None ≡ at key es
  at-read_other key place e es h is inside read other =
      let there : e ≡ get_or es (length (below key es)) e = rw (← is) read in
      sym (at-other_place 0 key_count key e es h (rw (← is) inside) (λ same. other (ap (λ (d : ℕ × X). d.0) there ∙ same)))

  key-there : (low end key : ℕ) (y : X) (d : ℕ × X) (es : List (ℕ × X)) → rises low end es ≡ true → at key es ≡ Some y → (get_or es (length (below key es)) d).0 ≡ key
  key-there low end key y d [] h here = cc
  key-there low end key y d (e ∷ es) h here =
      let rest : rises (e.0 + 1) end es ≡ true = grind (arith, nat_tests) in
      elim (leb_tells key e.0) [
        | inl past ↦ grind (arith, nat_tests, past.1, below_low (e.0 + 1) end key es, at-before (e.0 + 1) end key es)
        | inr first ↦ grind (arith, nat_tests, first.1, key-there (e.0 + 1) end key y d es rest)
      ]

  pub put-there : (low end key : ℕ) (x y : X) (es : List (ℕ × X)) → rises low end es ≡ true → at key es ≡ Some y → set es (length (below key es)) (key, x) ≡ put key x es
  put-there low end key x y [] h here = cc
  put-there low end key x y (e ∷ es) h here =
      let rest : rises (e.0 + 1) end es ≡ true = grind (arith, nat_tests) in
      elim (leb_tells key e.0) [
        | inl past ↦ grind (arith, nat_tests, past.1, below_low (e.0 + 1) end key es, at-before (e.0 + 1) end key es)
        | inr first ↦ grind (arith, nat_tests, first.1, put-there (e.0 + 1) end key x y es rest)
      ]

  -- the same where the value alone is written
  pub put-here : (low end key : ℕ) (x y : X) (d : ℕ × X) (es : List (ℕ × X)) → rises low end es ≡ true → at key es ≡ Some y → set es (length (below key es)) ((get_or es (length (below key es)) d).0, x) ≡ put key x es
  put-here low end key x y d es h here = ap (λ k. set es (length (below key es)) (k, x)) (key-there low end key y d es h here) ∙ put-there low end key x y es h here

  pub put-new : (low end key : ℕ) (x : X) (es : List (ℕ × X)) → rises low end es ≡ true → at key es ≡ None → insert es (length (below key es)) (key, x) ≡ put key x es
  put-new low end key x [] h none = refl
  put-new low end key x (e ∷ es) h none =
      let rest : rises (e.0 + 1) end es ≡ true = grind (arith, nat_tests) in
      elim (leb_tells key e.0) [
        | inl past ↦ grind (arith, nat_tests, past.1, below_low (e.0 + 1) end key es)
        | inr first ↦ grind (arith, nat_tests, first.1, put-new (e.0 + 1) end key x es rest)
      ]

  -- the entries without a key that none has
  pub without_none : (low end key : ℕ) (es : List (ℕ × X)) → rises low end es ≡ true → key < low → without key es ≡ es
  without_none low end key [] h before = refl
  without_none low end key (e ∷ es) h before = grind (arith, nat_tests, without_none (e.0 + 1) end key es)

  pub without-there : (low end key : ℕ) (y : X) (es : List (ℕ × X)) → rises low end es ≡ true → at key es ≡ Some y → remove es (length (below key es)) ≡ without key es
  without-there low end key y [] h here = cc
  without-there low end key y (e ∷ es) h here =
      let rest : rises (e.0 + 1) end es ≡ true = grind (arith, nat_tests) in
      elim (leb_tells key e.0) [
        | inl past ↦ grind (arith, nat_tests, past.1, below_low (e.0 + 1) end key es, at-before (e.0 + 1) end key es, without_none (e.0 + 1) end key es)
        | inr first ↦ grind (arith, nat_tests, first.1, without-there (e.0 + 1) end key y es rest)
      ]

  -- what is changed below a bound is changed among the entries below it
  pub below-put : (low end bound key : ℕ) (x : X) (es : List (ℕ × X)) → rises low end es ≡ true → key < bound → below bound (put key x es) ≡ put key x (below bound es)
  below-put low end bound key x [] h inside = grind (arith, nat_tests)
  below-put low end bound key x (e ∷ es) h inside =
      let rest : rises (e.0 + 1) end es ≡ true = grind (arith, nat_tests) in
      grind (arith, nat_tests, below_low (e.0 + 1) end bound es, below-put (e.0 + 1) end bound key x es rest inside)

  pub below-without : (bound key : ℕ) (es : List (ℕ × X)) → below bound (without key es) ≡ without key (below bound es)
  below-without bound key [] = refl
  below-without bound key (e ∷ es) = grind (arith, nat_tests, below-without bound key es)
