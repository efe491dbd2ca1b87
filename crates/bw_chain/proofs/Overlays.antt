-- What stands at a key once edits are made, and that rising entries are what stands at their keys.
use Rattle.std.proofs.Common.{◌≡◌, ◌≢◌, ℕ, ◌+◌, ◌<◌, ◌≤◌, true, List, [], ◌∷◌, refl, ap, ◌∙◌, arith}
use Rattle.std.specs.Prelude.{Option, Some, None, unwrap_or}
use Rattle.std.proofs.lemmas.Bool.Decides.{nat_tests}
use Rattle.bw_delta.specs.Entries.{at, rises, below, from}
use Rattle.bw_delta.proofs.At.{at-put_same, at-put_other, at-without_same, at-without_other, at-below_in, at-below_out}
use Rattle.bw_delta.proofs.Rises.{rises-put, rises-without, rises-below}
use Rattle.bw_chain.specs.Passing.Edited.{edited_at, edited, edited_below, falls, noted}
use Rattle.bw_chain.proofs.Firsts.{at-before}

-- what an edit says, or else what stood there
abbrev pub overlay : {X : Type 0} → Option (Option X) → Option X → Option X
overlay (Some edit) stood = edit
overlay None stood = stood

module _ {X : Type 0} where
  tail_same : (a b : ℕ × X) (xs ys : List (ℕ × X)) (end : ℕ) → a.0 ≡ b.0 → rises (a.0 + 1) end xs ≡ true → rises (b.0 + 1) end ys ≡ true → ((q : ℕ) → at q (a ∷ xs) ≡ at q (b ∷ ys)) → (q : ℕ) → at q xs ≡ at q ys
  tail_same a b xs ys end key ra rb same q = let h = same q in grind (arith, nat_tests, at-before (a.0 + 1) end q xs, at-before (b.0 + 1) end q ys)

  -- rising entries with the same at each key are the same
  pub same_entries : (low end : ℕ) (xs ys : List (ℕ × X)) → rises low end xs ≡ true → rises low end ys ≡ true → ((q : ℕ) → at q xs ≡ at q ys) → xs ≡ ys
  same_entries low end [] [] ra rb same = refl
  same_entries low end [] (b ∷ ys) ra rb same = let h = same b.0 in grind (arith, nat_tests)
  same_entries low end (a ∷ xs) [] ra rb same = let h = same a.0 in grind (arith, nat_tests)
  same_entries low end (a ∷ xs) (b ∷ ys) ra rb same =
      let ha = same a.0 in
      let hb = same b.0 in
      let rest_a : rises (a.0 + 1) end xs ≡ true = grind (arith, nat_tests) in
      let rest_b : rises (b.0 + 1) end ys ≡ true = grind (arith, nat_tests) in
      let key : a.0 ≡ b.0 = grind (arith, nat_tests, at-before (a.0 + 1) end b.0 xs, at-before (b.0 + 1) end a.0 ys) in
      let value : a.1 ≡ b.1 = grind (arith, nat_tests) in
      let rest_b_too : rises (a.0 + 1) end ys ≡ true = rw key rest_b in
      let rest : xs ≡ ys = same_entries (a.0 + 1) end xs ys rest_a rest_b_too (tail_same a b xs ys end key rest_a rest_b same) in
      let head : a ≡ b = λ n. (key n, value n) in
      ap (λ l. a ∷ l) rest ∙ ap (λ e. e ∷ ys) head

  pub at-edited_at : (key q : ℕ) (x : Option X) (es : List (ℕ × X)) → key ≡ q → at q (edited_at key x es) ≡ x
  at-edited_at key q (Some x) es same = at-put_same key q x es same
  at-edited_at key q None es same = at-without_same key q es same

  pub at-edited_at_other : (key q : ℕ) (x : Option X) (es : List (ℕ × X)) → key ≢ q → at q (edited_at key x es) ≡ at q es
  at-edited_at_other key q (Some x) es other = at-put_other key q x es other
  at-edited_at_other key q None es other = at-without_other key q es other

  -- the newest edit of a key decides
  pub at-edited : (q : ℕ) (edits : List (ℕ × Option X)) (es : List (ℕ × X)) → at q (edited edits es) ≡ overlay (at q edits) (at q es)
  at-edited q [] es = refl
  at-edited q (e ∷ edits) es = grind (arith, nat_tests, at-edited q edits es, at-edited_at e.0 q e.1 (edited edits es), at-edited_at_other e.0 q e.1 (edited edits es))

  pub rises-edited_at : (low end key : ℕ) (x : Option X) (es : List (ℕ × X)) → low ≤ key → key < end → rises low end es ≡ true → rises low end (edited_at key x es) ≡ true
  rises-edited_at low end key (Some x) es le above h = rises-put end low key x es le above h
  rises-edited_at low end key None es le above h = rises-without end low key es h

  pub falls-higher : (low end past : ℕ) (es : List (ℕ × X)) → end ≤ past → falls low end es ≡ true → falls low past es ≡ true
  falls-higher low end past [] le h = refl
  falls-higher low end past (e ∷ es) le h = grind (arith, nat_tests)

  pub falls-lower : (low bound end : ℕ) (es : List (ℕ × X)) → low ≤ bound → falls bound end es ≡ true → falls low end es ≡ true
  falls-lower low bound end [] le f = refl
  falls-lower low bound end (e ∷ es) le f = grind (arith, nat_tests, falls-lower low bound e.0 es)

  pub below_falling : (low end bound : ℕ) (es : List (ℕ × X)) → end ≤ bound → falls low end es ≡ true → below bound es ≡ es
  below_falling low end bound [] le f = refl
  below_falling low end bound (e ∷ es) le f = grind (arith, nat_tests, below_falling low e.0 bound es)

  pub falls-below : (low end bound : ℕ) (es : List (ℕ × X)) → falls low end es ≡ true → falls low bound (below bound es) ≡ true
  falls-below low end bound [] f = refl
  falls-below low end bound (e ∷ es) f = grind (arith, nat_tests, falls-below low e.0 bound es, below_falling low e.0 bound es)

  pub falls-from : (low end bound : ℕ) (es : List (ℕ × X)) → falls low end es ≡ true → falls bound end (from bound es) ≡ true
  falls-from low end bound [] f = refl
  falls-from low end bound (e ∷ es) f = grind (arith, nat_tests, falls-from low e.0 bound es, falls-higher bound e.0 end (from bound es))

  -- below the end, or from it on
  pub at-from_in : (bound q : ℕ) (es : List (ℕ × X)) → bound ≤ q → at q (from bound es) ≡ at q es
  at-from_in bound q [] inside = refl
  at-from_in bound q (e ∷ es) inside = grind (arith, nat_tests, at-from_in bound q es inside)

  -- nothing stands from the end on
  at-falling : (low end q : ℕ) (es : List (ℕ × X)) → falls low end es ≡ true → end ≤ q → at q es ≡ None
  at-falling low end q [] f past = refl
  at-falling low end q (e ∷ es) f past = grind (arith, nat_tests, at-falling low e.0 q es)

  -- a noted edit is there if there was none for its key
  pub at-noted : (low end key : ℕ) (x : X) (es : List (ℕ × X)) → falls low end es ≡ true → at key (noted key x es) ≡ Some (unwrap_or (at key es) x)
  at-noted low end key x [] f = grind (arith, nat_tests)
  at-noted low end key x (e ∷ es) f = grind (arith, nat_tests, at-noted low e.0 key x es, at-falling low e.0 key es)

  pub at-noted_other : (key q : ℕ) (x : X) (es : List (ℕ × X)) → key ≢ q → at q (noted key x es) ≡ at q es
  at-noted_other key q x [] other = grind (arith, nat_tests)
  at-noted_other key q x (e ∷ es) other = grind (arith, nat_tests, at-noted_other key q x es other)

  pub falls-noted : (low end key : ℕ) (x : X) (es : List (ℕ × X)) → low ≤ key → key < end → falls low end es ≡ true → falls low end (noted key x es) ≡ true
  falls-noted low end key x [] le above f = grind (arith, nat_tests)
  falls-noted low end key x (e ∷ es) le above f = grind (arith, nat_tests, falls-noted low e.0 key x es le)

  pub from-noted : (end key : ℕ) (x : X) (es : List (ℕ × X)) → key < end → from end (noted key x es) ≡ from end es
  from-noted end key x [] inside = grind (arith, nat_tests)
  from-noted end key x (e ∷ es) inside = grind (arith, nat_tests, from-noted end key x es inside)

module _ {X : Type 0} where
  pub rises-edited : (low end : ℕ) (edits : List (ℕ × Option X)) (es : List (ℕ × X)) → falls low end edits ≡ true → rises low end es ≡ true → rises low end (edited edits es) ≡ true
  rises-edited low end [] es f h = h
  rises-edited low end (e ∷ edits) es f h =
      let le : low ≤ e.0 = grind (arith, nat_tests) in
      let above : e.0 < end = grind (arith, nat_tests) in
      let rest : falls low e.0 edits ≡ true = grind (arith, nat_tests) in
      rises-edited_at low end e.0 e.1 (edited edits es) le above (rises-edited low end edits es (falls-higher low e.0 end edits (omega arith) rest) h)

  pub rises-edited_below : (low past top end : ℕ) (edits : List (ℕ × Option X)) (es : List (ℕ × X)) → falls low top edits ≡ true → rises low past es ≡ true → rises low end (edited_below end edits es) ≡ true
  rises-edited_below low past top end edits es f h =
      rises-edited low end (below end edits) (below end es) (falls-below low top end edits f) (rises-below past low end es h)

  pub at-edited_below_in : (end q : ℕ) (edits : List (ℕ × Option X)) (es : List (ℕ × X)) → q < end → at q (edited_below end edits es) ≡ overlay (at q edits) (at q es)
  at-edited_below_in end q edits es inside =
      rw (at-edited q (below end edits) (below end es), at-below_in end q edits inside, at-below_in end q es inside) refl

  pub at-edited_below_out : (end q : ℕ) (edits : List (ℕ × Option X)) (es : List (ℕ × X)) → end ≤ q → at q (edited_below end edits es) ≡ None
  at-edited_below_out end q edits es outside =
      rw (at-edited q (below end edits) (below end es), at-below_out end q edits outside, at-below_out end q es outside) refl
