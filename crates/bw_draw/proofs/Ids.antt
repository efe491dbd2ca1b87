-- What is made of the ids one after the other.
use Rattle.std.proofs.Common.{Bool, cond, map, ◌≡◌, ℕ, ◌+◌, zero, suc, [], ◌∷◌, ◌++◌, Option, Some, None, ap, refl, ◌∙◌, arith}
use Rattle.std.specs.Prelude.{filter_map, option_to_list, count_by}
use Rattle.std.specs.List.{range_with_len, cons_option}
use Rattle.std.proofs.lemmas.List.Elements.{filter_map-append}
use Rattle.std.proofs.lemmas.List.FromFn.{map-range_with_len_more}
use Rattle.std.proofs.lemmas.List.Sums.{sum_by_push}

last : (a n j : ℕ) → a + n ≡ j → range_with_len a (suc n) ≡ range_with_len a n ++ j ∷ []
last a zero j e = let same : a ≡ j = omega arith in ap (λ k. k ∷ []) same
last a (suc n) j e = ap (λ l. a ∷ l) (last (a + 1) n j (omega arith))

-- the ids below n + 1 are those below n, and n
pub ids_more : (n : ℕ) → range_with_len 0 (n + 1) ≡ range_with_len 0 n ++ n ∷ []
ids_more n = let on : n + 1 ≡ suc n = omega arith in ap (range_with_len 0) on ∙ last 0 n n (omega arith)

as_list : {X : Type 0} (found : Option X) → cons_option found [] ≡ option_to_list found
as_list None = refl
as_list (Some x) = refl

-- what is found at the ids below n + 1 is what is found below n, and at n
pub found_more : {X : Type 0} (h : ℕ → Option X) (n : ℕ) → filter_map h (range_with_len 0 (n + 1)) ≡ filter_map h (range_with_len 0 n) ++ option_to_list (h n)
found_more h n = ap (filter_map h) (ids_more n) ∙ filter_map-append h (range_with_len 0 n) (n ∷ []) ∙ ap (λ found. filter_map h (range_with_len 0 n) ++ found) (as_list (h n))

-- and so is their number
pub counted_more : (p : ℕ → Bool) (n : ℕ) → count_by p (range_with_len 0 (n + 1)) ≡ count_by p (range_with_len 0 n) + cond (p n) 1 0
counted_more p n = ap (count_by p) (ids_more n) ∙ sum_by_push (λ k. cond (p k) 1 0) (range_with_len 0 n) n

pub mapped_more : {X : Type 0} (f : ℕ → X) (n : ℕ) → map f (range_with_len 0 (n + 1)) ≡ map f (range_with_len 0 n) ++ f n ∷ []
mapped_more f n = map-range_with_len_more f 0 n n (omega arith)
