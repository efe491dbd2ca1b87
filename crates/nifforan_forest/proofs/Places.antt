-- One hand of a list is another one.
use Rattle.std.proofs.Common.{◌≡◌, ◌≢◌, ◌⊎◌, inl, inr, ℕ, zero, suc, ◌<◌, ◌≤◌, Bool, true, false, List, [], ◌∷◌, length, Some, refl, ap, arith}
use Rattle.std.specs.Prelude.{nat_lt, slice_get, slice_set}
use Rattle.std.proofs.lemmas.Bool.Decides.{nat_tests}

pub some_is : {X : Type 0} → (a b : X) → Some a ≡ Some b → a ≡ b
some_is a b same = cc

pub set_there : {X : Type 0} → (xs : List X) (i : ℕ) (y : X) → i < length xs → slice_get (slice_set xs i y) i ≡ Some y
set_there [] i y less = absurd (omega (arith, less))
set_there (x ∷ xs) zero y less = refl
set_there (x ∷ xs) (suc i) y less = set_there xs i y (omega (arith, less))

pub set_elsewhere : {X : Type 0} → (xs : List X) (i j : ℕ) (y : X) → j ≢ i → slice_get (slice_set xs i y) j ≡ slice_get xs j
set_elsewhere [] i j y differ = refl
set_elsewhere (x ∷ xs) zero zero y differ = absurd (differ refl)
set_elsewhere (x ∷ xs) zero (suc j) y differ = refl
set_elsewhere (x ∷ xs) (suc i) zero y differ = refl
set_elsewhere (x ∷ xs) (suc i) (suc j) y differ = set_elsewhere xs i j y (λ same. differ (ap suc same))

pub below_or_past : (a b : ℕ) → (a < b) ⊎ (b ≤ a)
below_or_past a b = by_test (nat_lt a b) refl
  where
    by_test : (test : Bool) → nat_lt a b ≡ test → (a < b) ⊎ (b ≤ a)
    by_test true is = inl (grind (arith, nat_tests, is))
    by_test false is = inr (grind (arith, nat_tests, is))

pub either_way : {A B C : Type 0} → A ⊎ B → (A → C) → (B → C) → C
either_way (inl a) one other = one a
either_way (inr b) one other = other b
