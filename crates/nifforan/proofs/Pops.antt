-- The first pair and the last one, taken out.
use Rattle.std.proofs.Common.{Result, Ok, Err, ◌≡◌, ℕ, ◌+◌, ◌<◌, ◌≤◌, true, [], ◌∷◌, ◌++◌, Option, Some, None, refl, sym, ◌∙◌, ap, subst, arith}
use Rattle.std.specs.Prelude.{IfOk}
use Rattle.std.proofs.lemmas.Bool.Decides.{nat_tests}
use Rattle.bw_delta.specs.Entries.{rises, without, first_entry, last_entry}
use Rattle.nifforan.specs.Calls.{TakesOut, PopsFirst, PopsLast}
use Rattle.nifforan.specs.Maps.{PairList}

-- a key below all others
pub without_behind : (low end key : ℕ) (es : PairList) → rises low end es ≡ true → key < low → without key es ≡ es
without_behind low end key [] rise below = refl
without_behind low end key (d ∷ es) rise below = grind (arith, nat_tests, without_behind (d.0 + 1) end key es)

no_last : (xs : PairList) → last_entry xs ≡ None → xs ≡ []
no_last [] none = refl
no_last (x ∷ xs) none = cc

last_behind : (low end : ℕ) (pair : ℕ × ℕ) (es : PairList) → rises low end es ≡ true → last_entry es ≡ Some pair → low ≤ pair.0
last_behind low end pair [] rise last = cc
last_behind low end pair (d ∷ es) rise last = by_last (last_entry es) refl (λ q is. last_behind (d.0 + 1) end q es (grind (arith, nat_tests)) is)
  where
    by_last : (found : Option (ℕ × ℕ)) → last_entry es ≡ found → ((q : ℕ × ℕ) → last_entry es ≡ Some q → d.0 + 1 ≤ q.0) → low ≤ pair.0
    by_last None is rest = let its : d ≡ pair = grind (arith, nat_tests) in subst (λ (p : ℕ × ℕ). low ≤ p.0) its (grind (arith, nat_tests))
    by_last (Some q) is rest =
        let its : q ≡ pair = grind (arith, nat_tests) in
        let later = rest q is in
        subst (λ (p : ℕ × ℕ). low ≤ p.0) its (grind (arith, nat_tests))

without_last : (low end : ℕ) (pair : ℕ × ℕ) (es : PairList) → rises low end es ≡ true → last_entry es ≡ Some pair → es ≡ without pair.0 es ++ pair ∷ []
without_last low end pair [] rise last = cc
without_last low end pair (d ∷ es) rise last = by_last (last_entry es) refl (λ q is. without_last (d.0 + 1) end q es rest_rises is)
  where
    rest_rises : rises (d.0 + 1) end es ≡ true
    rest_rises = grind (arith, nat_tests)

    by_last : (found : Option (ℕ × ℕ)) → last_entry es ≡ found → ((q : ℕ × ℕ) → last_entry es ≡ Some q → es ≡ without q.0 es ++ q ∷ []) → d ∷ es ≡ without pair.0 (d ∷ es) ++ pair ∷ []
    by_last None is rest =
        let none = no_last es is in
        let its : d ≡ pair = grind (arith, nat_tests) in
        subst (λ (p : ℕ × ℕ). d ∷ es ≡ without p.0 (d ∷ es) ++ p ∷ []) its (grind (arith, nat_tests))
    by_last (Some q) is rest =
        let its : q ≡ pair = grind (arith, nat_tests) in
        let later = last_behind (d.0 + 1) end q es rest_rises is in
        let those = rest q is in
        subst (λ (p : ℕ × ℕ). d ∷ es ≡ without p.0 (d ∷ es) ++ p ∷ []) its (grind (arith, nat_tests))

-- what is taken out is the first pair, and the others stay
pub pops_first : (low end : ℕ) (found reply : Option (ℕ × ℕ)) (old new : PairList) → rises low end old ≡ true → found ≡ first_entry old → TakesOut found reply old new → PopsFirst reply old new
pops_first low end None reply [] new rise first pops = subst (λ (o : Option (ℕ × ℕ)). PopsFirst o [] new) (sym pops.0) (refl, pops.1)
pops_first low end None reply (d ∷ es) new rise first pops = absurd (cc first)
pops_first low end (Some pair) reply [] new rise first pops = absurd (cc first)
pops_first low end (Some pair) reply (d ∷ es) new rise first pops =
    let its : pair ≡ d = cc first in
    let rest : without pair.0 (d ∷ es) ≡ es = (let same = without_behind (d.0 + 1) end pair.0 es (grind (arith, nat_tests)) (grind (arith, nat_tests)) in grind (arith, nat_tests)) in
    subst (λ (o : Option (ℕ × ℕ)). PopsFirst o (d ∷ es) new) (sym pops.0) (cc (its, rest, pops.1))

-- what is taken out is the last pair, and the others stay
pub pops_last : (low end : ℕ) (found reply : Option (ℕ × ℕ)) (old new : PairList) → rises low end old ≡ true → found ≡ last_entry old → TakesOut found reply old new → PopsLast reply old new
pops_last low end None reply [] new rise last pops = subst (λ (o : Option (ℕ × ℕ)). PopsLast o [] new) (sym pops.0) (refl, pops.1)
pops_last low end None reply (d ∷ es) new rise last pops = absurd (cc last)
pops_last low end (Some pair) reply old new rise last pops =
    subst (λ (o : Option (ℕ × ℕ)). PopsLast o old new) (sym pops.0) (without_last low end pair old rise (sym last) ∙ ap (λ (rest : PairList). rest ++ pair ∷ []) (sym pops.1))

pub on_ok : {T E : Type 0} (P Q : T → Type 0) (r : Result T E) → ((x : T) → P x → Q x) → IfOk r P → IfOk r Q
on_ok P Q (Ok x) step is = step x is
on_ok P Q (Err e) step is = tt
