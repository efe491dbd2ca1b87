-- The first entry from a bound on, and the last below one, by what stands at each key.
use Rattle.std.proofs.Common.{◌≡◌, ◌≢◌, ℕ, ◌+◌, ◌<◌, ◌≤◌, true, List, [], ◌∷◌, refl, subst, arith, inl, inr}
use Rattle.std.specs.Prelude.{Some, None}
use Rattle.std.proofs.lemmas.Bool.Decides.{nat_tests, leb_tells}
use Rattle.bw_delta.specs.Entries.{at, rises, from, first_from}
use Rattle.bw_delta.proofs.Rises.{from_all}

module _ {X : Type 0} where
  -- nothing stands below the number from which the keys rise
  pub at-before : (low end q : ℕ) (es : List (ℕ × X)) → rises low end es ≡ true → q < low → at q es ≡ None
  at-before low end q [] h before = refl
  at-before low end q (e ∷ es) h before = grind (arith, nat_tests, at-before (e.0 + 1) end q es)

  -- what stands at the key is the first entry from it on, if that is its own
  pub at-first_hit : (low end key : ℕ) (e : ℕ × X) (es : List (ℕ × X)) → rises low end es ≡ true → first_from key es ≡ Some e → e.0 ≡ key → at key es ≡ Some e.1
  at-first_hit low end key e [] h first same = cc
  at-first_hit low end key e (d ∷ es) h first same = grind (arith, nat_tests, at-first_hit (d.0 + 1) end key e es)

  pub at-first_other : (low end key : ℕ) (e : ℕ × X) (es : List (ℕ × X)) → rises low end es ≡ true → first_from key es ≡ Some e → e.0 ≢ key → at key es ≡ None
  at-first_other low end key e [] h first other = refl
  at-first_other low end key e (d ∷ es) h first other = grind (arith, nat_tests, at-first_other (d.0 + 1) end key e es, at-before (d.0 + 1) end key es)

  pub at-first_none : (key : ℕ) (es : List (ℕ × X)) → first_from key es ≡ None → at key es ≡ None
  at-first_none key [] first = refl
  at-first_none key (d ∷ es) first = grind (arith, nat_tests, at-first_none key es)

  pub first_from-at : (low end key : ℕ) (x : X) (es : List (ℕ × X)) → rises low end es ≡ true → at key es ≡ Some x → first_from key es ≡ Some (key, x)
  first_from-at low end key x [] h here = cc
  first_from-at low end key x (d ∷ es) h here = grind (arith, nat_tests, first_from-at (d.0 + 1) end key x es, at-before (d.0 + 1) end key es)

  pub from_past : (low end bound : ℕ) (es : List (ℕ × X)) → rises low end es ≡ true → end ≤ bound → from bound es ≡ []
  from_past low end bound [] h past = refl
  from_past low end bound (e ∷ es) h past = grind (arith, nat_tests, from_past (e.0 + 1) end bound es)

  pub from_zero : (es : List (ℕ × X)) → from 0 es ≡ es
  from_zero [] = refl
  from_zero (e ∷ es) = grind (arith, nat_tests, from_zero es)

  pub first_from-bound : (bound : ℕ) (e : ℕ × X) (es : List (ℕ × X)) → first_from bound es ≡ Some e → bound ≤ e.0
  first_from-bound bound e [] first = cc
  first_from-bound bound e (d ∷ es) first = grind (arith, nat_tests, first_from-bound bound e es)

  -- the first entry left, and those after it
  pub from_step : (low end bound : ℕ) (e : ℕ × X) (es : List (ℕ × X)) → rises low end es ≡ true → first_from bound es ≡ Some e → from bound es ≡ e ∷ from (e.0 + 1) es
  from_step low end bound e [] h first = cc
  from_step low end bound e (d ∷ es) h first =
      elim (leb_tells bound d.0) [
        | inl here ↦
            let found : Some d ≡ Some e = rw here.0 at first in
            let is : d ≡ e = cc in
            let step : from bound (d ∷ es) ≡ d ∷ from (d.0 + 1) (d ∷ es) =
            let rest : rises (d.0 + 1) end es ≡ true = grind (arith, nat_tests) in
            grind (arith, nat_tests, from_all end (d.0 + 1) bound es (omega (arith, here.1)) rest, from_all end (d.0 + 1) (d.0 + 1) es (omega arith) rest)
            in
            let Step : ℕ × X → Type 0 = λ x. from bound (d ∷ es) ≡ x ∷ from (x.0 + 1) (d ∷ es) in
            subst Step is step
        | inr later ↦
            let rest : rises (d.0 + 1) end es ≡ true = grind (arith, nat_tests) in
            let found : first_from bound es ≡ Some e = rw later.0 at first in
            let more : from bound es ≡ e ∷ from (e.0 + 1) es = from_step (d.0 + 1) end bound e es rest found in
            let past : bound ≤ e.0 = first_from-bound bound e es found in
            grind (arith, nat_tests, more)
      ]

pub ruleset stands_at = (at-first_hit, at-first_other, at-first_none)
