-- Tests of equality answer what the facts say.
use Rattle.std.proofs.Common.{◌≡◌, ◌≢◌, ◌↔◌, ℕ, suc, Bool, true, false, IsTrue, List, [], ◌∷◌, length, get_or, refl, sym, ap, arith}
use Rattle.std.proofs.lemmas.Bool.Decides.{nat_tests}
use Rattle.bw_delta.specs.Pages.{Page}
use Rattle.bw_law.specs.Same.{is_same_page, are_same_entries}
use Rattle.bw_law.proofs.SameTests.{same_page, same_page_tells}

-- an answer that is true just for equal pages is that of the test
pub same_pages : (answer : Bool) (p q : Page) → (IsTrue answer ↔ (p ≡ q)) → answer ≡ is_same_page p q
same_pages answer p q tells = by_test answer (is_same_page p q) (λ yes. same_page_tells p q (tells.0 yes)) (λ yes. tells.1 (same_page p q yes))
  where
    by_test : (a b : Bool) → (a ≡ true → b ≡ true) → (b ≡ true → a ≡ true) → a ≡ b
    by_test true true to back = refl
    by_test true false to back = sym (to refl)
    by_test false true to back = back refl
    by_test false false to back = refl

-- lists of different lengths aren't the same
pub other_length : {X : Type 0} → (is_same : X → X → Bool) (es fs : List (ℕ × X)) → length es ≢ length fs → are_same_entries is_same es fs ≡ false
other_length is_same [] [] other = absurd (other refl)
other_length is_same [] (f ∷ fs) other = refl
other_length is_same (e ∷ es) [] other = refl
other_length is_same (e ∷ es) (f ∷ fs) other =
    let rest : length es ≢ length fs = λ same. other (ap suc same) in
    grind (arith, nat_tests, other_length is_same es fs rest)

pub ruleset lengths = (other_length)

-- a list of two, by what was read of it
pub two_items : {Y : Type 0} → (ys : List Y) (a b : Y) → length ys ≡ 2 → a ≡ get_or ys 0 a → b ≡ get_or ys 1 b → ys ≡ a ∷ b ∷ []
two_items [] a b two first second = absurd (omega arith)
two_items (y ∷ []) a b two first second = absurd (omega arith)
two_items (x ∷ y ∷ []) a b two first second = cc
two_items (x ∷ y ∷ z ∷ ys) a b two first second = absurd (omega arith)
