-- Stretches at which nothing stands, after each change of a list of entries.
use Rattle.std.proofs.Common.{◌≡◌, ◌≢◌, ℕ, ◌+◌, ◌<◌, ◌≤◌, min, max, true, List, [], ◌∷◌, ◌++◌, refl, arith, inl, inr, ◌∙◌}
use Rattle.std.specs.Prelude.{Some, None}
use Rattle.std.proofs.lemmas.Bool.Decides.{nat_tests, leb_tells, eqb_tells}
use Rattle.bw_delta.specs.Entries.{at, put, without, below, from, rises, first_from, last_below}
use Rattle.bw_delta.proofs.At.{at-put_other, at-without_same, at-without_other, at-below_in, at-below_out, at-joined_left, at-joined_right}
use Rattle.bw_chain.specs.Searching.Gaps.{HasGap}
use Rattle.bw_chain.proofs.Firsts.{at-before}
use Rattle.bw_chain.proofs.Lasts.{last_from_low}

module _ {X : Type 0} (low end : ℕ) where
  pub HasGap-within : (a b : ℕ) (es : List (ℕ × X)) → a ≤ low → end ≤ b → HasGap a b es → HasGap low end es
  HasGap-within a b es le ge gap q above inside = gap q (omega arith) (omega arith)

  -- an entry is put before the stretch or past it, or cuts it short
  pub HasGap-put_before : (key : ℕ) (x : X) (es : List (ℕ × X)) → key < low → HasGap low end es → HasGap low end (put key x es)
  HasGap-put_before key x es before gap q above inside =
      let other : key ≢ q = omega arith in
      at-put_other key q x es other ∙ gap q above inside

  pub HasGap-put_past : (key : ℕ) (x : X) (es : List (ℕ × X)) → end ≤ key → HasGap low end es → HasGap low end (put key x es)
  HasGap-put_past key x es past gap q above inside =
      let other : key ≢ q = omega arith in
      at-put_other key q x es other ∙ gap q above inside

  pub HasGap-put_cut : (key : ℕ) (x : X) (es : List (ℕ × X)) → HasGap low end es → HasGap low (min end key) (put key x es)
  HasGap-put_cut key x es gap q above inside =
      let other : key ≢ q = omega arith in
      at-put_other key q x es other ∙ gap q above (omega arith)

  pub HasGap-put_raised : (key : ℕ) (x : X) (es : List (ℕ × X)) → HasGap low end es → HasGap (max low (key + 1)) end (put key x es)
  HasGap-put_raised key x es gap q above inside =
      let other : key ≢ q = omega arith in
      at-put_other key q x es other ∙ gap q (omega arith) inside

  pub HasGap-without : (key : ℕ) (es : List (ℕ × X)) → HasGap low end es → HasGap low end (without key es)
  HasGap-without key es gap q above inside =
      elim (eqb_tells key q) [ inl same ↦ at-without_same key q es same.1 | inr other ↦ at-without_other key q es other.1 ∙ gap q above inside ]

  -- where the keys end, the stretch has no end
  pub HasGap-below : (bound : ℕ) (es : List (ℕ × X)) → HasGap low (min end bound) es → HasGap low end (below bound es)
  HasGap-below bound es gap q above inside =
      elim (leb_tells bound q) [ inl cut ↦ at-below_out bound q es cut.1 | inr left ↦ at-below_in bound q es left.1 ∙ gap q above (omega (arith, left.1)) ]

  pub HasGap-below_in : (bound : ℕ) (es : List (ℕ × X)) → HasGap low end es → HasGap low end (below bound es)
  HasGap-below_in bound es gap = HasGap-below bound es (λ q above inside. gap q above (omega arith))

  pub HasGap-below_cut : (bound past : ℕ) (es : List (ℕ × X)) → bound ≤ past → HasGap low past es → HasGap low end (below bound es)
  HasGap-below_cut bound past es le gap = HasGap-below bound es (λ q above inside. gap q above (omega arith))

  -- on either side of a merge's separator
  pub HasGap-joined : (bound : ℕ) (xs ys : List (ℕ × X)) → HasGap low (min end bound) xs → HasGap (max low bound) end ys → HasGap low end (below bound xs ++ from bound ys)
  HasGap-joined bound xs ys lower upper q above inside =
      elim (leb_tells bound q) [
        | inl right ↦ at-joined_right bound q xs ys right.1 ∙ upper q (omega (arith, right.1)) inside
        | inr left ↦ at-joined_left bound q xs ys left.1 ∙ lower q above (omega (arith, left.1))
      ]

  pub HasGap-joined_left : (bound : ℕ) (xs ys : List (ℕ × X)) → end ≤ bound → HasGap low end xs → HasGap low end (below bound xs ++ from bound ys)
  HasGap-joined_left bound xs ys le gap = HasGap-joined bound xs ys (λ q above inside. gap q above (omega arith)) (λ q above inside. absurd (omega arith))

  pub HasGap-joined_right : (bound : ℕ) (xs ys : List (ℕ × X)) → bound ≤ low → HasGap low end ys → HasGap low end (below bound xs ++ from bound ys)
  HasGap-joined_right bound xs ys le gap = HasGap-joined bound xs ys (λ q above inside. absurd (omega arith)) (λ q above inside. gap q (omega arith) inside)

  -- what the entries say of a stretch they say of each tail
  HasGap-tail : (e : ℕ × X) (es : List (ℕ × X)) → HasGap low end (e ∷ es) → HasGap low end es
  HasGap-tail e es gap q above inside = grind (arith, nat_tests, gap q above inside)

  pub from-gap : (es : List (ℕ × X)) → low ≤ end → HasGap low end es → from low es ≡ from end es
  from-gap [] le gap = refl
  from-gap (e ∷ es) le gap = grind (arith, nat_tests, gap e.0, from-gap es le (HasGap-tail e es gap))

  pub below-gap : (es : List (ℕ × X)) → low ≤ end → HasGap low end es → below low es ≡ below end es
  below-gap [] le gap = refl
  below-gap (e ∷ es) le gap = grind (arith, nat_tests, gap e.0, below-gap es le (HasGap-tail e es gap))

module _ {X : Type 0} where
  -- nothing stands before the first entry from a number on, nor after the last one below it
  pub HasGap-before_first : (start past low : ℕ) (e : ℕ × X) (es : List (ℕ × X)) → rises start past es ≡ true → first_from low es ≡ Some e → HasGap low e.0 es
  HasGap-before_first start past low e [] h first q above inside = refl
  HasGap-before_first start past low e (d ∷ es) h first q above inside =
      grind (arith, nat_tests, HasGap-before_first (d.0 + 1) past low e es, at-before (d.0 + 1) past q es)

  pub HasGap-no_first : (low end : ℕ) (es : List (ℕ × X)) → first_from low es ≡ None → HasGap low end es
  HasGap-no_first low end [] first q above inside = refl
  HasGap-no_first low end (d ∷ es) first q above inside = grind (arith, nat_tests, HasGap-no_first low end es)

  pub HasGap-no_last : (end : ℕ) (es : List (ℕ × X)) → last_below end es ≡ None → HasGap 0 end es
  HasGap-no_last end [] last q above inside = refl
  HasGap-no_last end (d ∷ es) last q above inside = grind (arith, nat_tests, HasGap-no_last end es)

  pub HasGap-past_last : (start past end : ℕ) (e : ℕ × X) (es : List (ℕ × X)) → rises start past es ≡ true → last_below end es ≡ Some e → HasGap (e.0 + 1) end es
  HasGap-past_last start past end e [] h last q above inside = refl
  HasGap-past_last start past end e (d ∷ es) h last q above inside =
      grind (arith, nat_tests, HasGap-past_last (d.0 + 1) past end e es, HasGap-no_last end es, last_from_low (d.0 + 1) past end e es)

  -- a key at which nothing stands widens a stretch that it borders on
  pub HasGap-with_key : (low key : ℕ) (es : List (ℕ × X)) → HasGap low key es → at key es ≡ None → HasGap low (key + 1) es
  HasGap-with_key low key es gap none q above inside =
      elim (eqb_tells key q) [ inl same ↦ rw (same.1) at none | inr other ↦ gap q above (omega (arith, other.1)) ]

  pub HasGap-from_key : (key end : ℕ) (es : List (ℕ × X)) → HasGap (key + 1) end es → at key es ≡ None → HasGap key end es
  HasGap-from_key key end es gap none q above inside =
      elim (eqb_tells key q) [ inl same ↦ rw (same.1) at none | inr other ↦ gap q (omega (arith, other.1)) inside ]
