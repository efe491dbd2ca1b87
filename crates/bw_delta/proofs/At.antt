-- What stands at a key after each change of a list of entries.
use Rattle.std.proofs.Common.{◌≡◌, ◌≢◌, ℕ, ◌<◌, ◌≤◌, List, [], ◌∷◌, ◌++◌, refl, arith}
use Rattle.std.specs.Prelude.{Some, None}
use Rattle.std.proofs.lemmas.Bool.Decides.{nat_tests}
use Rattle.bw_delta.specs.Entries.{at, put, without, below, from}

module _ {X : Type 0} where
  pub at-put_same : (key q : ℕ) (x : X) (es : List (ℕ × X)) → key ≡ q → at q (put key x es) ≡ Some x
  at-put_same key q x [] same = grind (arith, nat_tests)
  at-put_same key q x (e ∷ es) same = grind (arith, nat_tests, at-put_same key q x es same)

  pub at-put_other : (key q : ℕ) (x : X) (es : List (ℕ × X)) → key ≢ q → at q (put key x es) ≡ at q es
  at-put_other key q x [] other = grind (arith, nat_tests)
  at-put_other key q x (e ∷ es) other = grind (arith, nat_tests, at-put_other key q x es other)

  pub at-without_same : (key q : ℕ) (es : List (ℕ × X)) → key ≡ q → at q (without key es) ≡ None
  at-without_same key q [] same = refl
  at-without_same key q (e ∷ es) same = grind (arith, nat_tests, at-without_same key q es same)

  pub at-without_other : (key q : ℕ) (es : List (ℕ × X)) → key ≢ q → at q (without key es) ≡ at q es
  at-without_other key q [] other = refl
  at-without_other key q (e ∷ es) other = grind (arith, nat_tests, at-without_other key q es other)

  pub at-below_in : (bound q : ℕ) (es : List (ℕ × X)) → q < bound → at q (below bound es) ≡ at q es
  at-below_in bound q [] inside = refl
  at-below_in bound q (e ∷ es) inside = grind (arith, nat_tests, at-below_in bound q es inside)

  pub at-below_out : (bound q : ℕ) (es : List (ℕ × X)) → bound ≤ q → at q (below bound es) ≡ None
  at-below_out bound q [] outside = refl
  at-below_out bound q (e ∷ es) outside = grind (arith, nat_tests, at-below_out bound q es outside)

  pub at-joined_left : (bound q : ℕ) (xs ys : List (ℕ × X)) → q < bound → at q (below bound xs ++ from bound ys) ≡ at q xs
  at-joined_left bound q [] [] inside = refl
  at-joined_left bound q [] (e ∷ es) inside = grind (arith, nat_tests, at-joined_left bound q [] es inside)
  at-joined_left bound q (e ∷ es) ys inside = grind (arith, nat_tests, at-joined_left bound q es ys inside)

  pub at-joined_right : (bound q : ℕ) (xs ys : List (ℕ × X)) → bound ≤ q → at q (below bound xs ++ from bound ys) ≡ at q ys
  at-joined_right bound q [] [] outside = refl
  at-joined_right bound q [] (e ∷ es) outside = grind (arith, nat_tests, at-joined_right bound q [] es outside)
  at-joined_right bound q (e ∷ es) ys outside = grind (arith, nat_tests, at-joined_right bound q es ys outside)

pub ruleset ats = (at-put_same, at-put_other, at-without_same, at-without_other, at-below_in, at-below_out, at-joined_left, at-joined_right)
