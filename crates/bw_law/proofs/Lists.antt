-- Look-ups in lists of entries that were changed, and their lengths.
use Rattle.std.proofs.Common.{◌≡◌, ◌≢◌, ◌⊎◌, ℕ, suc, ◌+◌, ◌<◌, ◌≤◌, true, cond, eqb, ltb, List, [], ◌∷◌, ◌++◌, length, Option, Some, None, refl, sym, ◌∙◌, inl, inr, ⊎_elim, arith}
use Rattle.std.proofs.lemmas.Bool.{cases_eq, cases_lt}
use Rattle.std.proofs.lemmas.Bool.Decides.{nat_tests}
use Rattle.bw_delta.specs.Entries.{at, put, without, below, from, rises}
use Rattle.bw_delta.proofs.Rises.{rises-lower}
use Rattle.bw_delta.proofs.At.{at-put_same, at-put_other, at-without_same, at-without_other, at-joined_left, at-joined_right, at-below_in, at-below_out}

-- the first of two answers
abbrev pub or_else : {X : Type 0} → Option X → Option X → Option X
or_else None other = other
or_else (Some x) other = Some x

-- there is something, or nothing
pub option_cases : {X : Type 0} → (o : Option X) → (o ≡ None) ⊎ ((x : X) × (o ≡ Some x))
option_cases None = inl refl
option_cases (Some x) = inr (x, refl)

module _ {X : Type 0} where
  -- what stands at a key after each change
  pub at-put : (key q : ℕ) (x : X) (es : List (ℕ × X)) → at q (put key x es) ≡ cond (eqb q key) (Some x) (at q es)
  at-put key q x es = grind (arith, nat_tests, at-put_same key q x es, at-put_other key q x es)

  pub at-without : (key q : ℕ) (es : List (ℕ × X)) → at q (without key es) ≡ cond (eqb q key) None (at q es)
  at-without key q es = grind (arith, nat_tests, at-without_same key q es, at-without_other key q es)

  pub at-below : (bound q : ℕ) (es : List (ℕ × X)) → at q (below bound es) ≡ cond (ltb q bound) (at q es) None
  at-below bound q es = grind (arith, nat_tests, at-below_in bound q es, at-below_out bound q es)

  pub at-halves : (bound q : ℕ) (xs ys : List (ℕ × X)) → at q (below bound xs ++ from bound ys) ≡ cond (ltb q bound) (at q xs) (at q ys)
  at-halves bound q xs ys = grind (arith, nat_tests, at-joined_left bound q xs ys, at-joined_right bound q xs ys)

  pub at-from : (bound q : ℕ) (es : List (ℕ × X)) → at q (from bound es) ≡ cond (ltb q bound) None (at q es)
  at-from bound q es = at-halves bound q [] es

  -- in two lists, one after the other, the first that has the key decides
  pub at-append : (xs ys : List (ℕ × X)) (q : ℕ) → at q (xs ++ ys) ≡ or_else (at q xs) (at q ys)
  at-append [] ys q = refl
  at-append (x ∷ xs) ys q = let ih = at-append xs ys q in ⊎_elim
      (λ (same : x.0 ≡ q). grind (arith, nat_tests))
      (λ (other : x.0 ≢ q). grind (arith, nat_tests))
      (cases_eq x.0 q)

  -- the answer is one of the two
  first_found : (a b : Option X) (x : X) → or_else a b ≡ Some x → (a ≡ Some x) ⊎ (b ≡ Some x)
  first_found None b x found = inr found
  first_found (Some y) b x found = inl found

  -- so what is found is in one of the lists
  pub found-append : (xs ys : List (ℕ × X)) (q : ℕ) (x : X) → at q (xs ++ ys) ≡ Some x → (at q xs ≡ Some x) ⊎ (at q ys ≡ Some x)
  found-append xs ys q x found = first_found (at q xs) (at q ys) x (sym (at-append xs ys q) ∙ found)

  -- no key before the bound is found
  pub at_before : (low end q : ℕ) (es : List (ℕ × X)) → rises low end es ≡ true → q < low → at q es ≡ None
  at_before low end q [] rise before = refl
  at_before low end q (e ∷ es) rise before = grind (arith, nat_tests, at_before (e.0 + 1) end q es)

  -- a key that is found lies in the range
  pub found_within : (low end q : ℕ) (x : X) (es : List (ℕ × X)) → rises low end es ≡ true → at q es ≡ Some x → (low ≤ q) × (q < end)
  found_within low end q x [] rise found = cc
  found_within low end q x (e ∷ es) rise found = let ih = found_within (e.0 + 1) end q x es in ⊎_elim
      (λ (same : e.0 ≡ q). (grind (arith, nat_tests), grind (arith, nat_tests)))
      (λ (other : e.0 ≢ q). (grind (arith, nat_tests, ih), grind (arith, nat_tests, ih)))
      (cases_eq e.0 q)

  -- a new key makes the list longer by one
  pub length-put : (key : ℕ) (x : X) (es : List (ℕ × X)) → at key es ≡ None → length (put key x es) ≡ suc (length es)
  length-put key x [] none = refl
  length-put key x (e ∷ es) none = grind (arith, nat_tests, length-put key x es)

  -- nothing goes where the key isn't there
  without_absent : (key : ℕ) (es : List (ℕ × X)) → at key es ≡ None → without key es ≡ es
  without_absent key [] none = refl
  without_absent key (e ∷ es) none = grind (arith, nat_tests, without_absent key es)

  -- a key that goes makes it shorter by one
  pub length-without : (low end key : ℕ) (x : X) (es : List (ℕ × X)) → rises low end es ≡ true → at key es ≡ Some x → suc (length (without key es)) ≡ length es
  length-without low end key x [] rise found = cc
  length-without low end key x (e ∷ es) rise found = ⊎_elim
      (λ (same : e.0 ≡ key). grind (arith, nat_tests, at_before (e.0 + 1) end key es, without_absent key es))
      (λ (other : e.0 ≢ key). grind (arith, nat_tests, length-without (e.0 + 1) end key x es))
      (cases_eq e.0 key)

  -- the parts below and from a bound have all entries
  pub length-parts : (bound : ℕ) (es : List (ℕ × X)) → length (below bound es) + length (from bound es) ≡ length es
  length-parts bound [] = refl
  length-parts bound (e ∷ es) = let ih = length-parts bound es in ⊎_elim
      (λ (under : e.0 < bound). grind (arith, nat_tests))
      (λ (over : bound ≤ e.0). grind (arith, nat_tests))
      (cases_lt e.0 bound)

  -- entries in one range and then entries in the next
  pub rises_joined : (end low middle : ℕ) (xs ys : List (ℕ × X)) → low ≤ middle → middle ≤ end → rises low middle xs ≡ true → rises middle end ys ≡ true → rises low end (xs ++ ys) ≡ true
  rises_joined end low middle [] ys first second left right = rises-lower end low middle ys first right
  rises_joined end low middle (e ∷ es) ys first second left right = grind (arith, nat_tests, rises_joined end (e.0 + 1) middle es ys)
