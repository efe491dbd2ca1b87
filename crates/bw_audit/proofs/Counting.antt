-- Numbers 1 to n that are each borne at most once, by n changes, are each borne once.
use Rattle.std.proofs.Common.{◌≡◌, ◌+◌, ◌<◌, ◌≤◌, ◌==◌, ℕ, zero, suc, true, false, cond, List, [], ◌∷◌, length, arith, refl}
use Rattle.std.proofs.lemmas.Bool.Decides.{nat_tests}
use Rattle.std.specs.List.{AllByRecursion}
use Rattle.bw_audit.specs.declared.change.Change.{Change}
use Rattle.bw_audit.specs.Legal.{times_borne}

-- f 1 + .. + f n
abbrev pub total : (ℕ → ℕ) → ℕ → ℕ
total f zero = 0
total f (suc n) = f (suc n) + total f n

pub total-le : (f : ℕ → ℕ) (n : ℕ) → ((m : ℕ) → f m ≤ 1) → total f n ≤ n
total-le f zero h = omega arith
total-le f (suc n) h = let a = h (suc n) in let b = total-le f n h in omega arith

pub each_one : (f : ℕ → ℕ) (n : ℕ) → ((m : ℕ) → f m ≤ 1) → total f n ≡ n → (m : ℕ) → 0 < m → m ≤ n → f m ≡ 1
each_one f zero h e m above below = absurd (omega arith)
each_one f (suc n) h e m above below =
    let a = h (suc n) in
    let b = total-le f n h in
    let one : f (suc n) ≡ 1 = omega arith in
    let rest : total f n ≡ n = omega arith in
    elim (m == suc n) as (λ t. (m == suc n) ≡ t → f m ≡ 1) [
      | true ↦ λ is. let same : m ≡ suc n = grind (arith, nat_tests) in rw same one
      | false ↦ λ is. let other : m ≤ n = grind (arith, nat_tests) in each_one f n h rest m above other
    ] refl

pub total-add : (f g : ℕ → ℕ) (n : ℕ) → total (λ m. f m + g m) n ≡ total f n + total g n
total-add f g zero = refl
total-add f g (suc n) = let e = total-add f g n in omega arith

abbrev pub hits : ℕ → ℕ → ℕ
hits x m = cond (x == m) 1 0

total-miss : (x n : ℕ) → n < x → total (hits x) n ≡ 0
total-miss x zero h = refl
total-miss x (suc n) h =
    let e = total-miss x n (omega arith) in
    let miss : hits x (suc n) ≡ 0 = grind (arith, nat_tests) in
    omega arith

pub total-hit : (x n : ℕ) → 0 < x → x ≤ n → total (hits x) n ≡ 1
total-hit x zero above below = absurd (omega arith)
total-hit x (suc n) above below =
    elim (x == suc n) as (λ t. (x == suc n) ≡ t → hits x (suc n) + total (hits x) n ≡ 1) [
      | true ↦ λ is.
          let same : x ≡ suc n = grind (arith, nat_tests) in
          let hit : hits x (suc n) ≡ 1 = grind (arith, nat_tests) in
          let rest = total-miss x n (omega arith) in
          omega arith
      | false ↦ λ is.
          let other : x ≤ n = grind (arith, nat_tests) in
          let miss : hits x (suc n) ≡ 0 = grind (arith, nat_tests) in
          let rest = total-hit x n above other in
          omega arith
    ] refl

total-zero : (n : ℕ) → total (λ m. 0) n ≡ 0
total-zero zero = refl
total-zero (suc n) = let e = total-zero n in omega arith

pub total-times : (cs : List Change) (n : ℕ) → AllByRecursion (λ c. (0 < c.number) × (c.number ≤ n)) cs → total (times_borne cs) n ≡ length cs
total-times [] n h = total-zero n
total-times (c ∷ cs) n h =
    let e = total-add (hits c.number) (times_borne cs) n in
    let hit = total-hit c.number n h.0.0 h.0.1 in
    let rest = total-times cs n h.1 in
    omega arith
