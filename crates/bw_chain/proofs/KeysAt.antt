-- What the key at one place says of rising entries.
use Rattle.std.proofs.Common.{◌≡◌, ℕ, zero, suc, ◌<◌, ◌≤◌, List, [], ◌∷◌, ◌++◌, length, take, drop, get_or, ap, sym, arith}
use Rattle.std.specs.Prelude.{Some}
use Rattle.bw_keys.specs.Ranges.{key_count}
use Rattle.bw_delta.specs.Entries.{below, from}
use Rattle.bw_delta.specs.Slices.{HasKeyAt}
use Rattle.bw_chain.specs.Ascends.{IsAscending}
use Rattle.bw_chain.specs.Pages.Halves.{key_at}
use Rattle.bw_chain.proofs.Sorted as sorted
use Rattle.bw_chain.proofs.Passing.Around as around

module _ {X : Type 0} (key i k : ℕ) (es : List (ℕ × X)) (h : IsAscending es) (inside : i < length es) (here : HasKeyAt es i k) where
  abbrev entry : ℕ × X
  entry = (k, here.0)

  key_is : k ≡ (get_or es i entry).0
  key_is = ap (λ (e : ℕ × X). e.0) here.1

  pub below-less : k < key → i < length (below key es)
  below-less less = sorted.below-less 0 key_count key i entry es h inside (rw (← key_is) less)

  pub below-most : key ≤ k → length (below key es) ≤ i
  below-most le = sorted.below-most 0 key_count key i entry es h inside (rw (← key_is) le)

  pub below-drop : key ≤ k → below key (drop i es) ≡ []
  below-drop le = around.below-drop 0 key_count key i entry es h inside (rw (← key_is) le)

  pub from-drop : key ≤ k → from key (drop i es) ≡ drop i es
  from-drop le = around.from-drop 0 key_count key i entry es h inside (rw (← key_is) le)

  pub below-upto : k < key → below key es ≡ take (suc i) es ++ below key (drop (suc i) es)
  below-upto less = around.below-upto 0 key_count key i entry es h inside (rw (← key_is) less)

  pub from-upto : k < key → from key es ≡ from key (drop (suc i) es)
  from-upto less = around.from-upto 0 key_count key i entry es h inside (rw (← key_is) less)

  pub last-below : k < key → length (below key (drop i es)) ≤ 1 → below key es ≡ take (suc i) es
  last-below less few = around.last-below key i entry es h inside (rw (← key_is) less) few

  pub last-after : k < key → length (below key (drop i es)) ≤ 1 → from key es ≡ drop (suc i) es
  last-after less few = around.last-after key i entry es h inside (rw (← key_is) less) few

-- where the key of the last entry is less, each entry lies below the key
module _ {X : Type 0} where
  pub below-each : (key i k : ℕ) (es : List (ℕ × X)) → IsAscending es → suc i ≡ length es → HasKeyAt es i k → k < key
      → length es ≡ length (below key es)
  below-each key i k es h last here less =
      let most = sorted.below-few key es in
      let least : i < length (below key es) = below-less key i k es h (omega arith) here less in
      omega (arith, most, least)

-- one more at most, where the key of the next but one isn't less
module _ {X : Type 0} where
  pub last-before : (key i k : ℕ) (es : List (ℕ × X)) → IsAscending es → suc i < length es → HasKeyAt es (suc i) k → key ≤ k → length (below key (drop i es)) ≤ 1
  last-before key i k es h inside here le =
      around.last-before 0 key_count key i (k, here.0) es h inside (rw (← ap (λ (e : ℕ × X). e.0) here.1) le)

  pub key_at-here : (n k : ℕ) (es : List (ℕ × X)) → n < length es → HasKeyAt es n k → key_at n es ≡ Some k
  key_at-here n k [] inside here = absurd (omega arith)
  key_at-here zero k (e ∷ es) inside here = ap (λ (d : ℕ × X). Some d.0) (sym here.1)
  key_at-here (suc n) k (e ∷ es) inside here = key_at-here n k es (omega arith) here
