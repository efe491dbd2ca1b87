-- The last entry below a bound, by what stands at each key.
use Rattle.std.proofs.Common.{◌≡◌, ◌↔◌, ℕ, ◌+◌, ◌<◌, ◌≤◌, true, false, IsTrue, List, [], ◌∷◌, Some, None, refl, ap, ⊎_elim, arith}
use Rattle.std.specs.Prelude.{IsSome}
use Rattle.std.proofs.lemmas.Bool.{cases_lt}
use Rattle.std.proofs.lemmas.Bool.Decides.{nat_tests}
use Rattle.bw_delta.specs.Entries.{at, rises, below, first_entry, first_from, last_below, last_entry}
use Rattle.bw_chain.proofs.Firsts.{at-before, from_past}

module _ {X : Type 0} where
  pub below_zero : (es : List (ℕ × X)) → below 0 es ≡ []
  below_zero [] = refl
  below_zero (e ∷ es) = grind (arith, nat_tests, below_zero es)

  -- the last entry below a bound is among those that rise
  pub last_from_low : (low past end : ℕ) (e : ℕ × X) (es : List (ℕ × X)) → rises low past es ≡ true → last_below end es ≡ Some e → low ≤ e.0
  last_from_low low past end e [] h last = cc
  last_from_low low past end e (d ∷ es) h last = grind (arith, nat_tests, last_from_low (d.0 + 1) past end e es)

  pub below_low : (low past bound : ℕ) (es : List (ℕ × X)) → rises low past es ≡ true → bound ≤ low → below bound es ≡ []
  below_low low past bound [] h le = refl
  below_low low past bound (d ∷ es) h le = grind (arith, nat_tests, below_low (d.0 + 1) past bound es)

  pub last_below-bound : (end : ℕ) (e : ℕ × X) (es : List (ℕ × X)) → last_below end es ≡ Some e → e.0 < end
  last_below-bound end e [] last = cc
  last_below-bound end e (d ∷ es) last = grind (arith, nat_tests, last_below-bound end e es)

  pub last_below-at : (low past key : ℕ) (x : X) (es : List (ℕ × X)) → rises low past es ≡ true → at key es ≡ Some x → last_below (key + 1) es ≡ Some (key, x)
  last_below-at low past key x [] h here = cc
  last_below-at low past key x (d ∷ es) h here =
      grind (arith, nat_tests, last_below-at (d.0 + 1) past key x es, at-before (d.0 + 1) past key es, below_low (d.0 + 1) past (key + 1) es)

  last_upto_end : (low past : ℕ) (e : ℕ × X) (es : List (ℕ × X)) → rises low past es ≡ true → last_entry es ≡ Some e → low ≤ e.0
  last_upto_end low past e [] h last = cc
  last_upto_end low past e (d ∷ []) h last =
      let same : d ≡ e = cc in
      let from_low : low ≤ d.0 = grind (arith, nat_tests) in
      rw (← same) from_low
  last_upto_end low past e (d ∷ c ∷ es) h last =
      let rest : rises (d.0 + 1) past (c ∷ es) ≡ true = grind (arith, nat_tests) in
      let first : low ≤ d.0 = grind (arith, nat_tests) in
      omega (arith, first, last_upto_end (d.0 + 1) past e (c ∷ es) rest last)

  -- where the last key lies below a bound, each does
  pub rises-last : (low past bound : ℕ) (e : ℕ × X) (es : List (ℕ × X)) → rises low past es ≡ true → last_entry es ≡ Some e → e.0 < bound → rises low bound es ≡ true
  rises-last low past bound e [] h last less = refl
  rises-last low past bound e (d ∷ []) h last less =
      let same : d ≡ e = cc in
      let lower : d.0 < bound = rw same less in
      grind (arith, nat_tests)
  rises-last low past bound e (d ∷ c ∷ es) h last less =
      let rest : rises (d.0 + 1) past (c ∷ es) ≡ true = grind (arith, nat_tests) in
      let more = rises-last (d.0 + 1) past bound e (c ∷ es) rest last less in
      let later : d.0 + 1 ≤ e.0 = last_upto_end (d.0 + 1) past e (c ∷ es) rest last in
      grind (arith, nat_tests)

  some_upto_last : (key : ℕ) (last : ℕ × X) (es : List (ℕ × X)) → last_entry es ≡ Some last → key ≤ last.0 → IsSome (first_from key es)
  some_upto_last key last [] is upto = cc
  some_upto_last key last (d ∷ []) is upto =
      let same : d ≡ last = cc in
      let here : key ≤ d.0 = rw same upto in
      grind (arith, nat_tests)
  some_upto_last key last (d ∷ c ∷ es) is upto =
      let rest : last_entry (c ∷ es) ≡ Some last = cc in
      grind (arith, nat_tests, some_upto_last key last (c ∷ es) rest upto)

  none_past_last : (low past key : ℕ) (last : ℕ × X) (es : List (ℕ × X)) → rises low past es ≡ true → last_entry es ≡ Some last
      → last.0 < key → first_from key es ≡ None
  none_past_last low past key last es h is less = ap first_entry
      (from_past low key key es (rises-last low past key last es h is less) (omega arith))

  -- an entry lies at the key or past it just where the last one does
  pub some_from : (low past key : ℕ) (last : ℕ × X) (es : List (ℕ × X)) → rises low past es ≡ true → last_entry es ≡ Some last →
      (key ≤ last.0) ↔ IsSome (first_from key es)
  some_from low past key last es h is = (
    (λ upto. some_upto_last key last es is upto),
    (λ some. ⊎_elim
        (λ (less : last.0 < key). absurd (cc (none_past_last low past key last es h is less, some)))
        (λ (upto : key ≤ last.0). upto)
        (cases_lt last.0 key)),
  )

  pub none_from_none : (key : ℕ) (es : List (ℕ × X)) → last_entry es ≡ None → IsSome (first_from key es) → IsTrue false
  none_from_none key [] is some = some
  none_from_none key (d ∷ es) is some = cc
