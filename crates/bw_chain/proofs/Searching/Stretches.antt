-- Stretches of keys at which a base page says what the chain does, and the pairs that lie there.
use Rattle.std.proofs.Common.{◌≡◌, ℕ, ◌<◌, ◌≤◌, min, max, true, List, [], ◌∷◌, ◌++◌, length, take, take-append-drop, refl, sym, ap, subst, arith, ⊎_elim, ◌∙◌}
use Rattle.std.specs.Prelude.{None}
use Rattle.std.proofs.lemmas.Bool.Decides.{nat_tests}
use Rattle.std.proofs.lemmas.Bool.{cases_lt}
use Rattle.bw_keys.specs.Ranges.{key_count}
use Rattle.bw_delta.specs.Entries.{at, below, from, rises}
use Rattle.bw_delta.proofs.At.{at-below_in, at-below_out, at-joined_left, at-joined_right}
use Rattle.bw_delta.proofs.Rises.{rises-from, rises-below}
use Rattle.bw_chain.specs.Ascends.{IsAscending}
use Rattle.bw_chain.specs.Passing.Heads.{BeginsWith, EndsWith}
use Rattle.bw_chain.specs.Searching.Stretches.{AreSameWithin}
use Rattle.bw_chain.proofs.Overlays.{same_entries, at-from_in}
use Rattle.bw_chain.proofs.Sorted.{below-front, from-behind}

module _ {X : Type 0} where
  -- nothing stands before the bound in what lies from it on
  at-from_out : (bound q : ℕ) (es : List (ℕ × X)) → q < bound → at q (from bound es) ≡ None
  at-from_out bound q [] out = refl
  at-from_out bound q (e ∷ es) out = grind (arith, nat_tests, at-from_out bound q es out)

  part_rises : (key end : ℕ) (es : List (ℕ × X)) → IsAscending es → rises key end (below end (from key es)) ≡ true
  part_rises key end es ascending = rises-below key_count key end (from key es) (rises-from key_count 0 key es ascending)

module _ {X : Type 0} where
  -- what lies from a key on is the end of rising entries
  ends_from : (a b low : ℕ) (es : List (ℕ × X)) → rises a b es ≡ true → EndsWith es (from low es)
  ends_from a b low es rise =
      let count : ℕ = length (below low es) in
      (below low es, sym (ap (λ xs. xs ++ from low es) (below-front a b low es rise) ∙ ap (λ xs. take count es ++ xs) (from-behind a b low es rise) ∙ take-append-drop count es))

module _ {X : Type 0} (xs : List (ℕ × X)) where
  pub same_left : (low end bound : ℕ) (es fs : List (ℕ × X)) → AreSameWithin low end xs es → AreSameWithin low (min end bound) xs (below bound es ++ from bound fs)
  same_left low end bound es fs same q above inside =
      same q above (omega arith) ∙ sym (at-joined_left bound q es fs (omega arith))

  pub same_right : (low end bound : ℕ) (es fs : List (ℕ × X)) → AreSameWithin low end xs fs → AreSameWithin (max low bound) end xs (below bound es ++ from bound fs)
  same_right low end bound es fs same q above inside =
      same q (omega arith) inside ∙ sym (at-joined_right bound q es fs (omega arith))

  from_in : (key end q : ℕ) (ys : List (ℕ × X)) → q < end → ((r : ℕ) → key ≤ r → r < end → at r xs ≡ at r ys) → at q (from key xs) ≡ at q (from key ys)
  from_in key end q ys inside same = ⊎_elim
      (λ (before : q < key). at-from_out key q xs before ∙ sym (at-from_out key q ys before))
      (λ (past : key ≤ q). at-from_in key q xs past ∙ same q past inside ∙ sym (at-from_in key q ys past))
      (cases_lt q key)

  -- the part of the one from a key on and below the end is that of the other
  same_part : (low key end : ℕ) (ys : List (ℕ × X)) → low ≤ key → IsAscending xs → IsAscending ys → AreSameWithin low end xs ys → below end (from key xs) ≡ below end (from key ys)
  same_part low key end ys le ax ay same =
      same_entries key end _ _ (part_rises key end xs ax) (part_rises key end ys ay) (λ q. ⊎_elim
      (λ (inside : q < end). at-below_in end q (from key xs) inside ∙ from_in key end q ys inside (λ r above under. same r (omega (arith, le, above)) under) ∙ sym (at-below_in end q (from key ys) inside))
      (λ (past : end ≤ q). at-below_out end q (from key xs) past ∙ sym (at-below_out end q (from key ys) past))
      (cases_lt q end))

  pub stretch_begins : (low key end : ℕ) (ys : List (ℕ × X)) → low ≤ key → IsAscending xs → IsAscending ys → AreSameWithin low end xs ys → BeginsWith (from key ys) (below end (from key xs))
  stretch_begins low key end ys le ax ay same =
      subst (λ (es : List (ℕ × X)). BeginsWith (from key ys) es) (sym (same_part low key end ys le ax ay same))
      (sym (below-front key key_count end (from key ys) (rises-from key_count 0 key ys ay)))

  below_in : (key low q : ℕ) (ys : List (ℕ × X)) → low ≤ q → ((r : ℕ) → low ≤ r → r < key → at r xs ≡ at r ys) → at q (below key xs) ≡ at q (below key ys)
  below_in key low q ys inside same = ⊎_elim
      (λ (before : q < key). at-below_in key q xs before ∙ same q inside before ∙ sym (at-below_in key q ys before))
      (λ (past : key ≤ q). at-below_out key q xs past ∙ sym (at-below_out key q ys past))
      (cases_lt q key)

  back_rises : (low key : ℕ) (es : List (ℕ × X)) → IsAscending es → rises low key (from low (below key es)) ≡ true
  back_rises low key es ascending = rises-from key 0 low (below key es) (rises-below key_count 0 key es ascending)

  -- the part of the one below a key and from the low on is that of the other
  same_back : (low key : ℕ) (ys : List (ℕ × X)) → IsAscending xs → IsAscending ys → AreSameWithin low key xs ys → from low (below key xs) ≡ from low (below key ys)
  same_back low key ys ax ay same =
      same_entries low key _ _ (back_rises low key xs ax) (back_rises low key ys ay) (λ q. ⊎_elim
      (λ (before : q < low). at-from_out low q (below key xs) before ∙ sym (at-from_out low q (below key ys) before))
      (λ (inside : low ≤ q). at-from_in low q (below key xs) inside ∙ below_in key low q ys inside same ∙ sym (at-from_in low q (below key ys) inside))
      (cases_lt q low))

  pub stretch_ends : (low key : ℕ) (ys : List (ℕ × X)) → IsAscending xs → IsAscending ys → AreSameWithin low key xs ys → EndsWith (below key ys) (from low (below key xs))
  stretch_ends low key ys ax ay same =
      subst (λ (es : List (ℕ × X)). EndsWith (below key ys) es) (sym (same_back low key ys ax ay same))
      (ends_from 0 key low (below key ys) (rises-below key_count 0 key ys ay))
