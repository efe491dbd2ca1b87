-- Bounds at the quantiles of sorted keys, one after the other.
use Rattle.std.proofs.Common.{◌≡◌, ◌≢◌, ℕ, zero, suc, ◌+◌, ◌-◌, ◌*◌, ◌/◌, ◌<◌, ◌≤◌, length, List, [], ◌∷◌, ◌++◌, Some, refl, sym, ap, subst, ◌∙◌, ⊎_elim, slice_get, arith, length-append, false}
use Rattle.std.specs.Prelude.{slice_index, Contains}
use Rattle.std.specs.List.Sorted.{IsStrictlyIncreasing, IsNonDecreasing}
use Rattle.std.proofs.lemmas.Bool.{cases_eq}
use Rattle.std.proofs.lemmas.Bool.Decides.{nat_tests}
use Rattle.std.proofs.lemmas.List.{get_or_append_left, get_or_push}
use Rattle.std.proofs.lemmas.List.Elements.{Contains-append_left, Contains-push, Contains-push_cases, Contains-get_or}
use Rattle.std.proofs.lemmas.Nat.{div-add-mod', div_below, le-div, mul-le}
use Rattle.bw_forest.specs.Bounds.{AreBounds, is_bad_number, quantile}

-- a tree's place in the sorted keys, and that a later tree's is no earlier
places_rise : (i j n trees : ℕ) → 0 < trees → i ≤ j → i * n / trees ≤ j * n / trees
places_rise i j n trees some le =
    let part : i * n / trees * trees ≤ i * n = let it = div-add-mod' (i * n) trees in omega (arith, it) in
    let more : i * n ≤ j * n = mul-le i n j n le (omega arith) in
    le-div (i * n / trees) (j * n) trees some (omega (arith, part, more))

place_inside : (j n trees : ℕ) → j < trees → 0 < n → j * n / trees < n
place_inside j n trees less some =
    let more : j * n < n * trees = grind (arith, less, some) in
    div_below (j * n) trees n (omega (arith, less)) more

-- the quantiles don't fall
pub quantiles_rise : (sorted : List ℕ) (i j trees : ℕ) → IsNonDecreasing sorted → i ≤ j → j < trees
    → quantile sorted i trees ≤ quantile sorted j trees
quantiles_rise [] i j trees up le less = omega arith
quantiles_rise (x ∷ xs) i j trees up le less =
    let n = length (x ∷ xs) in
    up (i * n / trees) (j * n / trees) 0 (places_rise i j n trees (omega (arith, less)) le) (place_inside j n trees less (omega arith))

-- the bounds at the quantiles below a number
pub record SoFar (sorted : List ℕ) (trees upto last : ℕ) (lows : List ℕ) : Type 0 where
  pub count : length lows ≤ upto
  pub some : 0 < length lows
  pub first : slice_get lows 0 ≡ Some 0
  pub at_end : slice_index lows (length lows - 1) ≡ last
  pub rise : IsStrictlyIncreasing lows
  pub below : (tree : ℕ) → upto ≤ tree → tree < trees → last ≤ quantile sorted tree trees
  pub each : (tree : ℕ) → 0 < tree → tree < upto → Contains lows (quantile sorted tree trees)
  pub only : (low : ℕ) → Contains lows low → 0 < low → (tree : ℕ) × (tree < trees) × (low ≡ quantile sorted tree trees)

only_zero : (low : ℕ) → Contains (0 ∷ []) low → low ≡ 0
only_zero low (zero, less, is) = sym is
only_zero low (suc n, less, is) = absurd (omega (arith, less))

pub begun : (sorted : List ℕ) (trees : ℕ) → SoFar sorted trees 1 0 (0 ∷ [])
begun sorted trees = record {
  count = omega arith;
  some = omega arith;
  first = refl;
  at_end = refl;
  rise = λ k less. absurd (omega (arith, less));
  below = λ tree from less. omega arith;
  each = λ tree from less. absurd (omega (arith, from, less));
  only = λ low there some. let none = only_zero low there in absurd (omega (arith, none, some));
}

first_kept : (xs : List ℕ) (more : ℕ) → slice_get xs 0 ≡ Some 0 → slice_get (xs ++ more ∷ []) 0 ≡ Some 0
first_kept [] more is = absurd (cc (is))
first_kept (x ∷ xs) more is = is

module _ (sorted : List ℕ) (trees i last : ℕ) (lows : List ℕ) (up : IsNonDecreasing sorted) (less : i < trees)
    (so : SoFar sorted trees i last lows) where
  equal : quantile sorted i trees ≤ last → last ≡ quantile sorted i trees
  equal low = let le = so.below i (omega arith) less in omega (arith, le, low)

  -- a quantile that stands there already
  pub again : quantile sorted i trees ≤ last → SoFar sorted trees (i + 1) last lows
  again low = record {
    count = omega (arith, so.count);
    some = so.some;
    first = so.first;
    at_end = so.at_end;
    rise = so.rise;
    below = λ tree from less. so.below tree (omega (arith, from)) less;
    each = λ tree from upto. ⊎_elim
        (λ (same : tree ≡ i). subst (λ t. Contains lows (quantile sorted t trees)) (sym same)
        (subst (Contains lows) (so.at_end ∙ equal low) (Contains-get_or lows (length lows - 1) 0 (omega (arith, so.some)))))
        (λ (other : tree ≢ i). so.each tree from (omega (arith, upto, other)))
        (cases_eq tree i);
    only = so.only;
  }

  more_rise : last < quantile sorted i trees → IsStrictlyIncreasing (lows ++ quantile sorted i trees ∷ [])
  more_rise above k inside =
      let q = quantile sorted i trees in
      let count = length-append lows (q ∷ []) in
      ⊎_elim
      (λ (at : k + 1 ≡ length lows).
      let one : slice_index (lows ++ q ∷ []) k ≡ last =
      get_or_append_left lows (q ∷ []) 0 k (omega (arith, at)) ∙ ap (slice_index lows) (omega (arith, at)) ∙ so.at_end in
      let two : slice_index (lows ++ q ∷ []) (k + 1) ≡ q = get_or_push lows q 0 (k + 1) (sym at) in
      omega (arith, one, two, above))
      (λ (before : k + 1 ≢ length lows).
      let one = get_or_append_left lows (q ∷ []) 0 k (omega (arith, before, inside, count)) in
      let two = get_or_append_left lows (q ∷ []) 0 (k + 1) (omega (arith, before, inside, count)) in
      let it = so.rise k (omega (arith, before, inside, count)) in
      omega (arith, one, two, it))
      (cases_eq (k + 1) (length lows))

  -- a quantile above all that stand there
  pub anew : last < quantile sorted i trees → SoFar sorted trees (i + 1) (quantile sorted i trees) (lows ++ quantile sorted i trees ∷ [])
  anew above =
      let q = quantile sorted i trees in
      let count = length-append lows (q ∷ []) in
      record {
        count = omega (arith, so.count, count);
        some = omega (arith, count);
        first = first_kept lows q so.first;
        at_end = get_or_push lows q 0 (length (lows ++ q ∷ []) - 1) (omega (arith, count));
        rise = more_rise above;
        below = λ tree from below. quantiles_rise sorted i tree trees up (omega (arith, from)) below;
        each = λ tree from upto. ⊎_elim
            (λ (same : tree ≡ i). subst (λ t. Contains (lows ++ q ∷ []) (quantile sorted t trees)) (sym same) (Contains-push lows q))
            (λ (other : tree ≢ i). Contains-append_left lows (q ∷ []) _ (so.each tree from (omega (arith, upto, other))))
            (cases_eq tree i);
        only = λ low there some. ⊎_elim
            (λ (before : Contains lows low). so.only low before some)
            (λ (same : q ≡ low). (i, less, sym same))
            (Contains-push_cases lows q low there);
      }

-- a branch of the loop: the quantile was appended where it is above the last bound
pub one_more : (sorted : List ℕ) (trees i last : ℕ) (lows : List ℕ) → IsNonDecreasing sorted → i < trees → SoFar sorted trees i last lows
    → (low : ℕ) → low ≡ quantile sorted i trees → last < low → SoFar sorted trees (i + 1) low (lows ++ low ∷ [])
one_more sorted trees i last lows up less so low is above =
    subst (λ q. SoFar sorted trees (i + 1) q (lows ++ q ∷ [])) (sym is)
    (anew sorted trees i last lows up less so (subst (λ q. last < q) is above))

pub no_more : (sorted : List ℕ) (trees i last : ℕ) (lows : List ℕ) → IsNonDecreasing sorted → i < trees → SoFar sorted trees i last lows
    → (low : ℕ) → low ≡ quantile sorted i trees → low ≤ last → SoFar sorted trees (i + 1) last lows
no_more sorted trees i last lows up less so low is above = again sorted trees i last lows up less so (omega (arith, is, above))

pub bounds_at_end : (sorted : List ℕ) (trees i last : ℕ) (lows : List ℕ) → is_bad_number trees ≡ false → i ≤ trees
    → SoFar sorted trees i last lows → AreBounds lows
bounds_at_end sorted trees i last lows number less so = record {
  number = grind (arith, nat_tests, number, so.count, so.some, less);
  from_zero = so.first;
  rise = so.rise;
}
