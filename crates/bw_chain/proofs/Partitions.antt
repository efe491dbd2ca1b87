-- Where rising entries split at a bound.
use Rattle.std.proofs.Common.{◌≡◌, ℕ, zero, suc, ◌+◌, ◌<◌, ◌≤◌, Bool, true, false, not, List, [], ◌∷◌, length, take, drop, get_or, refl, ap, arith}
use Rattle.std.specs.Prelude.{◌-◌, nat_lt, filter, slice_get}
use Rattle.std.specs.List.Sorted.{IsPartitionedBy, IsPartitionPoint}
use Rattle.std.proofs.lemmas.Bool.Decides.{nat_tests}
use Rattle.bw_delta.specs.Entries.{rises, last_entry}

module _ {X : Type 0} where
  -- no key lies below the number from which the keys rise
  pub key_from_low : (low end : ℕ) (es : List (ℕ × X)) (i : ℕ) (d : ℕ × X) → rises low end es ≡ true → i < length es → low ≤ (get_or es i d).0
  key_from_low low end [] i d h inside = absurd (omega arith)
  key_from_low low end (e ∷ es) zero d h inside = grind (arith, nat_tests)
  key_from_low low end (e ∷ es) (suc i) d h inside =
      let rest : rises (e.0 + 1) end es ≡ true = grind (arith, nat_tests) in
      let first : low ≤ e.0 = grind (arith, nat_tests) in
      omega (arith, key_from_low (e.0 + 1) end es i d rest (omega arith))

  pub rises-IsPartitionedBy : (low end bound : ℕ) (es : List (ℕ × X)) → rises low end es ≡ true → IsPartitionedBy (λ e. nat_lt e.0 bound) es
  rises-IsPartitionedBy low end bound [] h i j d le inside passes = absurd (omega arith)
  rises-IsPartitionedBy low end bound (e ∷ es) h zero zero d le inside passes = passes
  rises-IsPartitionedBy low end bound (e ∷ es) h zero (suc j) d le inside passes =
      let rest : rises (e.0 + 1) end es ≡ true = grind (arith, nat_tests) in
      let later : e.0 + 1 ≤ (get_or es j d).0 = key_from_low (e.0 + 1) end es j d rest (omega arith) in
      grind (arith, nat_tests)
  rises-IsPartitionedBy low end bound (e ∷ es) h (suc i) zero d le inside passes = absurd (omega arith)
  rises-IsPartitionedBy low end bound (e ∷ es) h (suc i) (suc j) d le inside passes =
      let rest : rises (e.0 + 1) end es ≡ true = grind (arith, nat_tests) in
      rises-IsPartitionedBy (e.0 + 1) end bound es rest i j d (omega arith) (omega arith) passes

module _ {Y : Type 0} (p q : Y → Bool) (other : (y : Y) → q y ≡ not (p y)) where
  abbrev SplitsAt : List Y → ℕ → Type 0
  SplitsAt ys i = IsPartitionPoint (λ y. p y ≡ true) (λ y. p y ≡ false) ys i

  rest_splits : (y : Y) (ys : List Y) (i : ℕ) → SplitsAt (y ∷ ys) (suc i) → SplitsAt ys i
  rest_splits y ys i point = (λ k d lower upper. point.0 (suc k) d (omega arith) (omega arith), λ k d lower upper. point.1 (suc k) d (omega arith) (omega arith))

  none_splits : (y : Y) (ys : List Y) → SplitsAt (y ∷ ys) zero → SplitsAt ys zero
  none_splits y ys point = (λ k d lower upper. absurd (omega arith), λ k d lower upper. point.1 (suc k) d (omega arith) (omega arith))

  pub filter_before : (i : ℕ) (ys : List Y) → SplitsAt ys i → filter p ys ≡ take i ys
  filter_before zero [] point = refl
  filter_before (suc i) [] point = refl
  filter_before zero (y ∷ ys) point =
      let fails : p y ≡ false = point.1 0 y (omega arith) (omega arith) in
      rw fails (filter_before zero ys (none_splits y ys point))
  filter_before (suc i) (y ∷ ys) point =
      let passes : p y ≡ true = point.0 0 y (omega arith) (omega arith) in
      rw passes (ap (λ l. y ∷ l) (filter_before i ys (rest_splits y ys i point)))

  pub filter_after : (i : ℕ) (ys : List Y) → SplitsAt ys i → filter q ys ≡ drop i ys
  filter_after zero [] point = refl
  filter_after (suc i) [] point = refl
  filter_after zero (y ∷ ys) point =
      let fails : p y ≡ false = point.1 0 y (omega arith) (omega arith) in
      rw (other y, fails) (ap (λ l. y ∷ l) (filter_after zero ys (none_splits y ys point)))
  filter_after (suc i) (y ∷ ys) point =
      let passes : p y ≡ true = point.0 0 y (omega arith) (omega arith) in
      rw (other y, passes) (filter_after i ys (rest_splits y ys i point))

pub last_entry-slice_get : {Y : Type 0} → (ys : List (ℕ × Y)) → last_entry ys ≡ slice_get ys (length ys - 1)
last_entry-slice_get [] = refl
last_entry-slice_get (y ∷ []) = refl
last_entry-slice_get (x ∷ y ∷ ys) =
    let one_less : length (x ∷ y ∷ ys) - 1 ≡ suc (length (y ∷ ys) - 1) = omega arith in
    rw (one_less, ← last_entry-slice_get (y ∷ ys)) refl
