-- What hands on several trees answer, one after the other.
use Rattle.std.proofs.Common.{◌≡◌, ℕ, zero, suc, ◌+◌, ◌<◌, ◌≤◌, min, Bool, true, false, List, [], ◌∷◌, length, take, Option, Some, None, refl, ap, sym, subst, ◌∙◌, arith}
use Rattle.std.specs.Prelude.{slice_get, nat_lt}
use Rattle.std.proofs.lemmas.Bool.Decides.{nat_tests}
use Rattle.nifforan_forest.specs.Answers.{HaveNone, HaveTogether}
use Rattle.nifforan_forest.proofs.Places.{some_is}

-- one tree more has no answer
pub none_more : {H X : Type 0} → (answers : H → Option X → Type 0) (hands : List H) (first end : ℕ) (hand : H)
    → slice_get hands end ≡ Some hand → answers hand None → HaveNone answers hands first end → HaveNone answers hands first (end + 1)
none_more {H = H} answers hands first end hand is none so_far tree it from below there = by_side (nat_lt tree end) refl
  where
    by_side : (test : Bool) → nat_lt tree end ≡ test → answers it None
    by_side true less = so_far tree it from (grind (arith, nat_tests, less)) there
    by_side false not_less =
        let same : end ≡ tree = let past : end ≤ tree = grind (arith, nat_tests, not_less) in omega (arith, past, below) in
        subst (λ (h : H). answers h None) (some_is hand it (sym is ∙ (ap (slice_get hands) same ∙ there))) none

-- one tree before them has none
pub none_before : {H X : Type 0} → (answers : H → Option X → Type 0) (hands : List H) (first end : ℕ) (hand : H)
    → slice_get hands first ≡ Some hand → answers hand None → HaveNone answers hands (first + 1) end → HaveNone answers hands first end
none_before {H = H} answers hands first end hand is none so_far tree it from below there = by_side (nat_lt first tree) refl
  where
    by_side : (test : Bool) → nat_lt first tree ≡ test → answers it None
    by_side true less = let past : first < tree = grind (arith, nat_tests, less) in so_far tree it (omega (arith, past)) below there
    by_side false not_less =
        let same : first ≡ tree = let past : tree ≤ first = grind (arith, nat_tests, not_less) in omega (arith, past, from) in
        subst (λ (h : H). answers h None) (some_is hand it (sym is ∙ (ap (slice_get hands) same ∙ there))) none

-- one tree more counts its pairs
pub together_then : {H : Type 0} → (has : H → ℕ → Type 0) (hands : List H) (tree all own : ℕ) (hand : H) → slice_get hands tree ≡ Some hand
    → has hand own → HaveTogether has (take tree hands) all → HaveTogether has (take (tree + 1) hands) (all + own)
together_then has [] tree all own hand is so so_far = absurd (cc)
together_then {H = H} has (h ∷ hands) zero all own hand is so so_far =
    (own, 0, subst (λ (it : H). has it own) (sym (some_is h hand is)) so, refl, omega (arith, so_far))
together_then has (h ∷ hands) (suc tree) all own hand is so so_far =
    let more : suc tree + 1 ≡ suc (tree + 1) = omega arith in
    rw more (so_far.0, so_far.1 + own, so_far.2, together_then has hands tree so_far.1 own hand is so so_far.3, omega (arith, so_far.4))

pub take_all : {X : Type 0} → (xs : List X) (n : ℕ) → length xs ≤ n → take n xs ≡ xs
take_all [] zero all = refl
take_all [] (suc n) all = refl
take_all (x ∷ xs) zero all = absurd (omega (arith, all))
take_all (x ∷ xs) (suc n) all = ap (λ (rest : List _). x ∷ rest) (take_all xs n (omega (arith, all)))

-- a sum that stays at its end
pub capped : (so_far count own sum : ℕ) → so_far ≡ min count 18446744073709551615 → sum ≡ min (so_far + own) 18446744073709551615
    → sum ≡ min (count + own) 18446744073709551615
capped so_far count own sum is more = omega (arith, is, more)
