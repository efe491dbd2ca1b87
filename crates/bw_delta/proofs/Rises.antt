-- Entries that rise inside a range still do after each change.
use Rattle.std.proofs.Common.{◌≡◌, ℕ, ◌+◌, ◌<◌, ◌≤◌, true, List, [], ◌∷◌, ◌++◌, length, refl, arith}
use Rattle.std.specs.Prelude.{is_some}
use Rattle.std.proofs.lemmas.Bool.Decides.{nat_tests}
use Rattle.bw_delta.specs.Entries.{at, put, without, below, from, rises}

module _ {X : Type 0} (end : ℕ) where
  pub rises-lower : (a b : ℕ) (es : List (ℕ × X)) → a ≤ b → rises b end es ≡ true → rises a end es ≡ true
  rises-lower a b [] le h = refl
  rises-lower a b (e ∷ es) le h = grind (arith, nat_tests)

  -- a key that has an entry lies where the entries rise
  pub there-from : (low key : ℕ) (es : List (ℕ × X)) → is_some (at key es) ≡ true → rises low end es ≡ true → low ≤ key
  there-from low key [] there h = absurd (cc)
  there-from low key (e ∷ es) there h = grind (arith, nat_tests, there-from (e.0 + 1) key es)

  pub there-below : (low key : ℕ) (es : List (ℕ × X)) → is_some (at key es) ≡ true → rises low end es ≡ true → key < end
  there-below low key [] there h = absurd (cc)
  there-below low key (e ∷ es) there h = grind (arith, nat_tests, there-below (e.0 + 1) key es)

  -- a new value there makes them no more
  pub length-put_there : (low key : ℕ) (x : X) (es : List (ℕ × X)) → is_some (at key es) ≡ true → rises low end es ≡ true → length (put key x es) ≡ length es
  length-put_there low key x [] there h = absurd (cc)
  length-put_there low key x (e ∷ es) there h = grind (arith, nat_tests, length-put_there (e.0 + 1) key x es, there-from (e.0 + 1) key es)

  pub rises-put : (low key : ℕ) (x : X) (es : List (ℕ × X)) → low ≤ key → key < end → rises low end es ≡ true → rises low end (put key x es) ≡ true
  rises-put low key x [] le above h = grind (arith, nat_tests)
  rises-put low key x (e ∷ es) le above h = grind (arith, nat_tests, rises-put (e.0 + 1) key x es)

  pub rises-without : (low key : ℕ) (es : List (ℕ × X)) → rises low end es ≡ true → rises low end (without key es) ≡ true
  rises-without low key [] h = refl
  rises-without low key (e ∷ es) h = grind (arith, nat_tests, rises-without (e.0 + 1) key es, rises-lower low (e.0 + 1) (without key es))

pub rises-below : {X : Type 0} → (end low bound : ℕ) (es : List (ℕ × X)) → rises low end es ≡ true → rises low bound (below bound es) ≡ true
rises-below end low bound [] h = refl
rises-below end low bound (e ∷ es) h =
    grind (arith, nat_tests, rises-below end (e.0 + 1) bound es, rises-lower bound low (e.0 + 1) (below bound es))

pub below_all : {X : Type 0} → (low bound : ℕ) (es : List (ℕ × X)) → rises low bound es ≡ true → below bound es ≡ es
below_all low bound [] h = refl
below_all low bound (e ∷ es) h = grind (arith, nat_tests, below_all (e.0 + 1) bound es)

pub from_all : {X : Type 0} → (end low bound : ℕ) (es : List (ℕ × X)) → bound ≤ low → rises low end es ≡ true → from bound es ≡ es
from_all end low bound [] le h = refl
from_all end low bound (e ∷ es) le h = grind (arith, nat_tests, from_all end (e.0 + 1) bound es)

pub rises-from : {X : Type 0} → (end low bound : ℕ) (es : List (ℕ × X)) → rises low end es ≡ true → rises bound end (from bound es) ≡ true
rises-from end low bound [] h = refl
rises-from end low bound (e ∷ es) h =
    grind (arith, nat_tests, rises-from end (e.0 + 1) bound es, from_all end (e.0 + 1) bound es, rises-lower end bound (e.0 + 1) es)

pub rises-append : {X : Type 0} → (end low middle : ℕ) (xs ys : List (ℕ × X)) → low ≤ middle → middle < end → rises low middle xs ≡ true → rises middle end ys ≡ true → rises low end (xs ++ ys) ≡ true
rises-append end low middle [] ys le above left right = rises-lower end low middle ys le right
rises-append end low middle (e ∷ es) ys le above left right = grind (arith, nat_tests, rises-append end (e.0 + 1) middle es ys)
