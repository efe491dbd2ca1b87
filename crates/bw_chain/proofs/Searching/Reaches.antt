-- A search for the greatest entry on its way down: what each change leaves to be searched.
use Rattle.std.proofs.Common.{◌≡◌, ◌≢◌, ℕ, ◌+◌, ◌<◌, ◌≤◌, min, Bool, true, false, not, List, [], ◌∷◌, ◌++◌, refl, sym, subst, arith, inl, inr, ◌∙◌}
use Rattle.std.specs.Prelude.{Option, Some, None}
use Rattle.std.proofs.lemmas.Bool.Decides.{nat_tests, leb_tells}
use Rattle.bw_keys.specs.Ranges.{key_count}
use Rattle.bw_delta.specs.Entries.{at, put, without, below, from, rises, last_below, last_upto}
use Rattle.bw_delta.proofs.At.{at-put_same, at-put_other, at-without_other, at-below_in, at-below_out, at-joined_left}
use Rattle.bw_chain.specs.Ascends.{IsAscending}
use Rattle.bw_chain.specs.Searching.Reaches.{is_open, IsClear, IsGreatest}
use Rattle.bw_chain.proofs.Lasts.{last_from_low, last_below-bound}
use Rattle.bw_chain.proofs.Searching.Gaps.{HasGap-no_last, HasGap-past_last}
use Rattle.bw_chain.proofs.Searching.Candidates.{last_below-held, last_below-none_left}

not_true : (b : Bool) → not b ≡ true → b ≡ false
not_true true h = sym h
not_true false h = refl

module _ {X : Type 0} where
  -- an open key is not too great, and greater than the best one
  pub open_upto : (upto q : ℕ) (best : Option (ℕ × X)) → is_open upto best q ≡ true → q ≤ upto
  open_upto upto q None h = grind (arith, nat_tests)
  open_upto upto q (Some e) h = grind (arith, nat_tests)

  -- entries that say the same of the open keys have the same greatest one
  pub greatest_of_same : (upto : ℕ) (best : Option (ℕ × X)) (es es' : List (ℕ × X)) (answer : Option (ℕ × X)) → ((q : ℕ) → is_open upto best q ≡ true → at q es ≡ at q es') → IsGreatest upto best es' answer → IsGreatest upto best es answer
  greatest_of_same upto best es es' None same h = (h.0, λ q low inside. same q inside ∙ h.1 q low inside)
  greatest_of_same upto best es es' (Some e) same h =
      (elim h.0 [ inl is ↦ inl is | inr stands ↦ inr (stands.0, same e.0 stands.0 ∙ stands.1) ], λ q low inside. same q inside ∙ h.1 q low inside)

  open_apart : (upto key q : ℕ) (best : Option (ℕ × X)) → is_open upto best key ≡ false → is_open upto best q ≡ true → key ≢ q
  open_apart upto key q best shut inside same = absurd (cc)

  -- what stands at a key that isn't open doesn't count
  pub greatest_put : (upto key : ℕ) (x : X) (best : Option (ℕ × X)) (es : List (ℕ × X)) (answer : Option (ℕ × X)) → is_open upto best key ≡ false → IsGreatest upto best es answer → IsGreatest upto best (put key x es) answer
  greatest_put upto key x best es answer shut h =
      greatest_of_same upto best (put key x es) es answer (λ q inside. at-put_other key q x es (open_apart upto key q best shut inside)) h

  pub greatest_without : (upto key : ℕ) (best : Option (ℕ × X)) (es : List (ℕ × X)) (answer : Option (ℕ × X)) → not (is_open upto best key) ≡ true → IsGreatest upto best es answer → IsGreatest upto best (without key es) answer
  greatest_without upto key best es answer shut h =
      greatest_of_same upto best (without key es) es answer (λ q inside. at-without_other key q es (open_apart upto key q best (not_true _ shut) inside)) h

  pub greatest_joined : (upto bound : ℕ) (best : Option (ℕ × X)) (xs ys : List (ℕ × X)) (answer : Option (ℕ × X)) → upto < bound → IsGreatest upto best xs answer → IsGreatest upto best (below bound xs ++ from bound ys) answer
  greatest_joined upto bound best xs ys answer less h =
      greatest_of_same upto best (below bound xs ++ from bound ys) xs answer (λ q inside. at-joined_left bound q xs ys (omega (arith, less, open_upto upto q best inside))) h

  -- past an open key lie the open keys that are greater
  open_past : (upto key q : ℕ) (x : X) (best : Option (ℕ × X)) → is_open upto best key ≡ true → is_open upto (Some (key, x)) q ≡ true → (is_open upto best q ≡ true) × (key < q)
  open_past upto key q x None here past = (grind (arith, nat_tests), grind (arith, nat_tests))
  open_past upto key q x (Some e) here past = (grind (arith, nat_tests), grind (arith, nat_tests))

  open_again : (upto key q : ℕ) (x : X) (best : Option (ℕ × X)) → is_open upto best q ≡ true → key < q → is_open upto (Some (key, x)) q ≡ true
  open_again upto key q x None here past = grind (arith, nat_tests)
  open_again upto key q x (Some e) here past = grind (arith, nat_tests)

  -- an entry that was put at an open key is the best one from then on
  pub greatest_raised : (upto key : ℕ) (x : X) (best : Option (ℕ × X)) (es : List (ℕ × X)) (answer : Option (ℕ × X)) → is_open upto best key ≡ true → IsGreatest upto (Some (key, x)) es answer → IsGreatest upto best (put key x es) answer
  greatest_raised upto key x best es None here h = absurd (cc)
  greatest_raised upto key x best es (Some e) here h =
      elim h.0 [
        | inl is ↦
            let same : (key, x) ≡ e = cc in
            let Is : ℕ × X → Type 0 = λ e. IsGreatest upto best (put key x es) (Some e) in
            let Clear : ℕ × X → Type 0 = λ e. IsClear (e.0 + 1) upto (Some (key, x)) es in
            let clear : IsClear (key + 1) upto (Some (key, x)) es = subst Clear (sym same) h.1 in
            subst Is same (
              inr (here, at-put_same key key x es refl),
              λ q low inside.
                  let other : key ≢ q = omega (arith, low) in
                  at-put_other key q x es other ∙ clear q low (open_again upto key q x best inside (omega (arith, low))),
            )
        | inr stands ↦
            let past = open_past upto key e.0 x best here stands.0 in
            let other : key ≢ e.0 = omega (arith, past.1) in (
              inr (past.0, at-put_other key e.0 x es other ∙ stands.1),
              λ q low inside.
                  let apart : key ≢ q = omega (arith, low, past.1) in
                  at-put_other key q x es apart ∙ h.1 q low (open_again upto key q x best inside (omega (arith, low, past.1))),
            )
      ]

  open_lower : (upto last q : ℕ) (best : Option (ℕ × X)) → is_open (min upto last) best q ≡ true → (is_open upto best q ≡ true) × (q ≤ last)
  open_lower upto last q best h =
      let both : q ≤ min upto last = open_upto (min upto last) q best h in
      (grind (arith, nat_tests), omega (arith, both))

  open_inside : (upto last q : ℕ) (best : Option (ℕ × X)) → is_open upto best q ≡ true → q ≤ last → is_open (min upto last) best q ≡ true
  open_inside upto last q best h le =
      let most : q ≤ upto = open_upto upto q best h in
      let both : q ≤ min upto last = omega (arith, most, le) in
      grind (arith, nat_tests)

  -- where the keys end, the search is for smaller ones
  pub greatest_lowered : (upto bound last : ℕ) (best : Option (ℕ × X)) (es : List (ℕ × X)) (answer : Option (ℕ × X)) → bound ≡ last + 1 → IsGreatest (min upto last) best es answer → IsGreatest upto best (below bound es) answer
  greatest_lowered upto bound last best es None next h = (
    h.0,
    λ q low inside. elim (leb_tells bound q) [
      | inl cut ↦ at-below_out bound q es cut.1
      | inr left ↦ at-below_in bound q es left.1 ∙ h.1 q low (open_inside upto last q best inside (omega (arith, left.1, next)))
    ],
  )
  greatest_lowered upto bound last best es (Some e) next h = (
    elim h.0 [
      | inl is ↦ inl is
      | inr stands ↦
          let lower = open_lower upto last e.0 best stands.0 in
          inr (lower.0, at-below_in bound e.0 es (omega (arith, lower.1, next)) ∙ stands.1)
    ],
    λ q low inside. elim (leb_tells bound q) [
      | inl cut ↦ at-below_out bound q es cut.1
      | inr left ↦ at-below_in bound q es left.1 ∙ h.1 q low (open_inside upto last q best inside (omega (arith, left.1, next)))
    ],
  )

  -- the best one that was found is the greatest where no open key has an entry
  pub greatest_found : (upto : ℕ) (best : Option (ℕ × X)) (es : List (ℕ × X)) → IsClear 0 upto best es → IsGreatest upto best es best
  greatest_found upto None es clear = (refl, clear)
  greatest_found upto (Some e) es clear = (inl refl, λ q low inside. clear q (omega arith) inside)

  pub at-last : (low past end : ℕ) (e : ℕ × X) (es : List (ℕ × X)) → rises low past es ≡ true → last_below end es ≡ Some e → at e.0 es ≡ Some e.1
  at-last low past end e [] h last = cc
  at-last low past end e (d ∷ es) h last =
      grind (arith, nat_tests, at-last (d.0 + 1) past end e es, HasGap-no_last end es, last_from_low (d.0 + 1) past end e es)

  -- of rising entries the last one up to a key is the greatest
  pub greatest_last : (upto : ℕ) (best : Option (ℕ × X)) (e : ℕ × X) (es : List (ℕ × X)) → IsAscending es → last_upto upto es ≡ Some e → is_open upto best e.0 ≡ true → IsGreatest upto best es (Some e)
  greatest_last upto best e es ascending last inside = (
    inr (inside, at-last 0 key_count (upto + 1) e es ascending last),
    λ q low here.
        HasGap-past_last 0 key_count (upto + 1) e es ascending last q low (omega (arith, open_upto upto q best here)),
  )

  shut_past : (upto low q : ℕ) (best : Option (ℕ × X)) → low ≤ upto → is_open upto best low ≡ false → is_open upto best q ≡ true → low < q
  shut_past upto low q None le shut inside = grind (arith, nat_tests)
  shut_past upto low q (Some e) le shut inside = grind (arith, nat_tests)

  -- no entry that is less than the best one counts
  pub clear_last : (upto : ℕ) (best : Option (ℕ × X)) (e : ℕ × X) (es : List (ℕ × X)) → IsAscending es → last_upto upto es ≡ Some e → is_open upto best e.0 ≡ false → IsClear 0 upto best es
  clear_last upto best e es ascending last shut q low inside =
      let most = last_below-bound (upto + 1) e es last in
      let past : e.0 < q = shut_past upto e.0 q best (omega (arith, most)) shut inside in
      HasGap-past_last 0 key_count (upto + 1) e es ascending last q (omega (arith, past)) (omega (arith, open_upto upto q best inside))

  pub clear_none : (upto : ℕ) (best : Option (ℕ × X)) (es : List (ℕ × X)) → last_upto upto es ≡ None → IsClear 0 upto best es
  clear_none upto best es none q low inside = HasGap-no_last (upto + 1) es none q low (omega (arith, open_upto upto q best inside))

  -- what a search finds that begins with all keys up to one
  pub greatest_is_last : (key : ℕ) (es : List (ℕ × X)) (answer : Option (ℕ × X)) → IsAscending es → IsGreatest key None es answer → last_upto key es ≡ answer
  greatest_is_last key es None ascending h =
      last_below-none_left es (key + 1) (key + 1) 0 refl (omega arith) (λ q low inside. h.1 q low (grind (arith, nat_tests))) refl
  greatest_is_last key es (Some e) ascending h =
      elim h.0 [
        | inl is ↦ absurd (cc)
        | inr stands ↦
            let most = open_upto key e.0 None stands.0 in
            last_below-held es (key + 1) (key + 1) e.0 e.1 ascending refl (omega (arith, most)) (λ q low inside. h.1 q low (grind (arith, nat_tests))) stands.1
      ]
