-- The number of rising entries below a key: what one entry says of it, and which entries they are.
use Rattle.std.proofs.Common.{◌≡◌, ℕ, zero, suc, ◌+◌, ◌-◌, ◌<◌, ◌≤◌, true, None, List, [], ◌∷◌, length, take, drop, get_or, refl, arith, inl, inr}
use Rattle.std.specs.Prelude.{slice_get}
use Rattle.std.proofs.lemmas.Option.{slice_get-get_or}
use Rattle.std.proofs.lemmas.Bool.Decides.{nat_tests, leb_tells}
use Rattle.bw_delta.specs.Entries.{rises, below, from}
use Rattle.bw_delta.proofs.Rises.{from_all}
use Rattle.bw_chain.proofs.Lasts.{below_low}
use Rattle.bw_chain.proofs.Partitions.{key_from_low}

module _ {X : Type 0} where
  pub below-less : (low end key i : ℕ) (d : ℕ × X) (es : List (ℕ × X)) → rises low end es ≡ true → i < length es → (get_or es i d).0 < key → i < length (below key es)
  below-less low end key i d [] h inside less = absurd (omega arith)
  below-less low end key zero d (e ∷ es) h inside less = grind (arith, nat_tests)
  below-less low end key (suc i) d (e ∷ es) h inside less =
      let rest : rises (e.0 + 1) end es ≡ true = grind (arith, nat_tests) in
      let later : e.0 + 1 ≤ (get_or es i d).0 = key_from_low (e.0 + 1) end es i d rest (omega arith) in
      let more : i < length (below key es) = below-less (e.0 + 1) end key i d es rest (omega arith) less in
      let first : e.0 < key = omega (arith, later, less) in
      grind (arith, nat_tests, more, first)

  pub below-most : (low end key i : ℕ) (d : ℕ × X) (es : List (ℕ × X)) → rises low end es ≡ true → i < length es → key ≤ (get_or es i d).0 → length (below key es) ≤ i
  below-most low end key i d [] h inside le = absurd (omega arith)
  below-most low end key zero d (e ∷ es) h inside le = grind (arith, nat_tests, below_low (e.0 + 1) end key es)
  below-most low end key (suc i) d (e ∷ es) h inside le =
      let rest : rises (e.0 + 1) end es ≡ true = grind (arith, nat_tests) in
      let more : length (below key es) ≤ i = below-most (e.0 + 1) end key i d es rest (omega arith) le in
      grind (arith, nat_tests, more)

  -- they are the first ones, and the others follow
  pub below-front : (low end key : ℕ) (es : List (ℕ × X)) → rises low end es ≡ true → below key es ≡ take (length (below key es)) es
  below-front low end key [] h = refl
  below-front low end key (e ∷ es) h =
      let rest : rises (e.0 + 1) end es ≡ true = grind (arith, nat_tests) in
      elim (leb_tells key e.0) [
        | inl past ↦ grind (arith, nat_tests, past.1, below_low (e.0 + 1) end key es)
        | inr first ↦ grind (arith, nat_tests, first.1, below-front (e.0 + 1) end key es rest)
      ]

  pub from-behind : (low end key : ℕ) (es : List (ℕ × X)) → rises low end es ≡ true → from key es ≡ drop (length (below key es)) es
  from-behind low end key [] h = refl
  from-behind low end key (e ∷ es) h =
      let rest : rises (e.0 + 1) end es ≡ true = grind (arith, nat_tests) in
      elim (leb_tells key e.0) [
        | inl past ↦ grind (arith, nat_tests, past.1, below_low (e.0 + 1) end key es, from_all end (e.0 + 1) key es)
        | inr first ↦ grind (arith, nat_tests, first.1, from-behind (e.0 + 1) end key es rest)
      ]

  pub below_end : (low end key : ℕ) (es : List (ℕ × X)) → rises low end es ≡ true → end ≤ key → below key es ≡ es
  below_end low end key [] h past = refl
  below_end low end key (e ∷ es) h past = grind (arith, nat_tests, below_end (e.0 + 1) end key es)

  pub below-few : (key : ℕ) (es : List (ℕ × X)) → length (below key es) ≤ length es
  below-few key [] = omega arith
  below-few key (e ∷ es) = grind (arith, nat_tests, below-few key es)

  pub from_end : (low end key : ℕ) (es : List (ℕ × X)) → rises low end es ≡ true → end ≤ key → from key es ≡ []
  from_end low end key [] h past = refl
  from_end low end key (e ∷ es) h past = grind (arith, nat_tests, from_end (e.0 + 1) end key es)

module _ {X : Type 0} (bound : ℕ) where
  -- no first entry, no entries
  pub from-nothing : (es : List (ℕ × X)) → slice_get es 0 ≡ None → es ≡ from bound es
  from-nothing [] none = refl
  from-nothing (e ∷ es) none = cc

  -- no last entry, no entries
  pub below-nothing : (es : List (ℕ × X)) → slice_get es (length es - 1) ≡ None → es ≡ below bound es
  below-nothing [] none = refl
  below-nothing (e ∷ es) none =
      let some = slice_get-get_or (e ∷ es) (length (e ∷ es) - 1) e (omega arith) in
      cc (some, none)
