-- Bounds and their ranges: which holds a key, and where bounds begin.
use Rattle.std.proofs.Common.{◌≡◌, ℕ, zero, suc, ◌+◌, ◌-◌, ◌<◌, ◌≤◌, length, true, false, List, [], ◌∷◌, Option, Some, None, refl, sym, ap, subst, ◌∙◌, slice_get, leb, leb-true, arith}
use Rattle.std.specs.Prelude.{slice_index, slice_index_or}
use Rattle.std.specs.List.Sorted.{IsPartitionPoint, IsStrictlyIncreasing, IsNonDecreasing}
use Rattle.std.proofs.lemmas.Bool.Decides.{nat_tests}
use Rattle.std.proofs.lemmas.List.{get_or_default}
use Rattle.std.proofs.lemmas.List.Sorted.{IsNonDecreasingBy-from_default}
use Rattle.bw_keys.specs.declared.range.Fence.{Fence}
use Rattle.bw_keys.specs.declared.range.Fence.TheVariants.{Key, Top}
use Rattle.bw_keys.specs.Ranges.{end_of, key_count}
use Rattle.bw_forest.specs.Bounds.{IsTreeOf, begun, end_before, ranges_of}

-- the keys don't fall
some_more : (xs : List ℕ) → IsStrictlyIncreasing xs → (i n j : ℕ) → j ≡ i + n → j < length xs → slice_index xs i ≤ slice_index xs j
some_more xs rise i zero j is less =
    let same : j ≡ i = omega (arith, is) in subst (λ k. slice_index xs i ≤ slice_index xs k) (sym same) (omega arith)
some_more xs rise i (suc n) j is less =
    let before = some_more xs rise i n (i + n) refl (omega (arith, is, less)) in
    let next = rise (i + n) (omega (arith, is, less)) in
    let same : j ≡ i + n + 1 = omega (arith, is) in
    subst (λ k. slice_index xs i ≤ slice_index xs k) (sym same) (omega (arith, before, next))

-- where the range ends, by what begins next
abbrev pub fence_at : Option ℕ → Fence
fence_at None = Top
fence_at (Some low) = Key low

pub next_end : (lows : List ℕ) → end_before lows ≡ fence_at (slice_get lows 0)
next_end [] = refl
next_end (low ∷ lows) = refl

pub range_at : (lows : List ℕ) (tree : ℕ) → tree < length lows
    → slice_get (ranges_of lows) tree ≡ Some (record { low = slice_index lows tree; high = fence_at (slice_get lows (suc tree)) })
range_at [] tree less = absurd (omega (arith, less))
range_at (low ∷ lows) zero less = ap (λ end. Some (record { low = low; high = end })) (next_end lows)
range_at (low ∷ lows) (suc n) less = range_at lows n (omega (arith, less))

rest_rises : (low : ℕ) (lows : List ℕ) → IsStrictlyIncreasing (low ∷ lows) → IsStrictlyIncreasing lows
rest_rises low lows rise k less =
    let next = rise (suc k) (omega (arith, less)) in
    let same : suc k + 1 ≡ suc (k + 1) = omega arith in
    subst (λ j. slice_index lows k < slice_index (low ∷ lows) j) same next

-- a bound at or below the key is counted, and one above it isn't
none_begun : (key : ℕ) (lows : List ℕ) → IsStrictlyIncreasing lows → key < slice_index_or lows 0 (suc key) → begun key lows ≡ 0
none_begun key [] rise above = refl
none_begun key (low ∷ []) rise above = grind (arith, nat_tests, above)
none_begun key (low ∷ next ∷ lows) rise above =
    let next_above : key < next = omega (arith, above, rise 0 (omega arith)) in
    let rest = none_begun key (next ∷ lows) (rest_rises low (next ∷ lows) rise) next_above in
    grind (arith, nat_tests, above, rest)

pub begun_few : (key : ℕ) (lows : List ℕ) → begun key lows ≤ length lows
begun_few key [] = omega arith
begun_few key (low ∷ lows) = grind (arith, nat_tests, begun_few key lows)

pub begun_upto : (key place low : ℕ) (lows : List ℕ) → IsStrictlyIncreasing lows → place < length lows
    → low ≡ slice_index_or lows place low → low ≤ key → place < begun key lows
begun_upto key place low [] rise inside is upto = absurd (omega (arith, inside))
begun_upto key zero low (first ∷ lows) rise inside is upto = grind (arith, nat_tests, is, upto)
begun_upto key (suc n) low (first ∷ lows) rise inside is upto =
    let so = begun_upto key n low lows (rest_rises first lows rise) (omega (arith, inside)) is upto in
    let same = get_or_default (first ∷ lows) (suc n) 0 low inside in
    let before = some_more (first ∷ lows) rise 0 (suc n) (suc n) (omega arith) inside in
    grind (arith, nat_tests, so, same, is, before, upto)

pub begun_below : (key place low : ℕ) (lows : List ℕ) → IsStrictlyIncreasing lows → place < length lows
    → low ≡ slice_index_or lows place low → key < low → begun key lows ≤ place
begun_below key place low [] rise inside is above = absurd (omega (arith, inside))
begun_below key zero low (first ∷ lows) rise inside is above =
    let none = none_begun key (first ∷ lows) rise (omega (arith, is, above)) in omega (arith, none)
begun_below key (suc n) low (first ∷ lows) rise inside is above =
    let so = begun_below key n low lows (rest_rises first lows rise) (omega (arith, inside)) is above in
    grind (arith, nat_tests, so)

pub begun_parts : (key : ℕ) (lows : List ℕ) → IsStrictlyIncreasing lows
    → IsPartitionPoint (λ low. leb low key ≡ true) (λ low. leb low key ≡ false) lows (begun key lows)
begun_parts key lows rise = (
  λ k d from less.
      let inside : k < length lows = omega (arith, less, begun_few key lows) in
      let low = slice_index_or lows k d in
      let past = begun_below key k low lows rise inside (get_or_default lows k d low inside) in
      grind (arith, nat_tests, past, less),
  λ k d from inside.
      let low = slice_index_or lows k d in
      let upto = begun_upto key k low lows rise inside (get_or_default lows k d low inside) in
      grind (arith, nat_tests, upto, from),
)

-- some range begins at or below each key
some_before : (bounds : List ℕ) (key point : ℕ) → slice_get bounds 0 ≡ Some 0
    → IsPartitionPoint (λ low. leb low key ≡ true) (λ low. leb low key ≡ false) bounds point → 1 ≤ point
some_before bounds key (suc n) first point = omega arith
some_before [] key zero first point = absurd (cc (first))
some_before (low ∷ rest) key zero first point = let it = point.1 0 0 (omega arith) (omega arith) in grind (arith, nat_tests, first, it)

below_next : (lows : List ℕ) (key point : ℕ) → key < key_count
    → ((k d : ℕ) → point ≤ k → k < length lows → leb (slice_index_or lows k d) key ≡ false) → key < end_of (fence_at (slice_get lows point))
below_next [] key point fits above = fits
below_next (low ∷ lows) key zero fits above = let it = above 0 0 (omega arith) (omega arith) in grind (arith, nat_tests, it)
below_next (low ∷ lows) key (suc n) fits above =
    below_next lows key n fits (λ k d from less. above (suc k) d (omega (arith, from)) (omega (arith, less)))

tree_at : (bounds : List ℕ) (key point : ℕ) → slice_get bounds 0 ≡ Some 0 → point ≤ length bounds → key < key_count
    → IsPartitionPoint (λ low. leb low key ≡ true) (λ low. leb low key ≡ false) bounds point → IsTreeOf bounds key (point - 1)
tree_at bounds key zero first bound fits parted = let some = some_before bounds key zero first parted in absurd (omega (arith, some))
tree_at bounds key (suc n) first bound fits parted =
    let same : suc n - 1 ≡ n = omega arith in
    subst (IsTreeOf bounds key) (sym same) (
      record { low = slice_index bounds n; high = fence_at (slice_get bounds (suc n)) },
      range_at bounds n (omega (arith, bound)),
      (leb-true _ _ (parted.0 n 0 (omega arith) (omega arith)), below_next bounds key (suc n) fits parted.1),
    )

pub got : (xs : List ℕ) (i x : ℕ) → i < length xs → x ≡ slice_index_or xs i x → slice_get xs i ≡ Some x
got [] i x less is = absurd (omega (arith, less))
got (y ∷ ys) zero x less is = ap Some (sym is)
got (y ∷ ys) (suc n) x less is = got ys n x (omega (arith, less)) is

pub got_none : (xs : List ℕ) (i : ℕ) → length xs ≤ i → slice_get xs i ≡ None
got_none [] i past = refl
got_none (y ∷ ys) zero past = absurd (omega (arith, past))
got_none (y ∷ ys) (suc n) past = got_none ys n (omega (arith, past))

pub range_from : (lows : List ℕ) (tree low : ℕ) (next : Option ℕ) (high : Fence) → tree < length lows → low ≡ slice_index_or lows tree low
    → slice_get lows (suc tree) ≡ next → high ≡ fence_at next → slice_get (ranges_of lows) tree ≡ Some (record { low = low; high = high })
range_from lows tree low next high less is after ends =
    let same : slice_index lows tree ≡ low = get_or_default lows tree 0 low less ∙ sym is in
    range_at lows tree less ∙ ap (λ n. Some (record { low = slice_index lows tree; high = fence_at n })) after
    ∙ ap (λ (end : Fence). Some (record { low = slice_index lows tree; high = end })) (sym ends)
    ∙ ap (λ l. Some (record { low = l; high = high })) same

-- the bound at the place is the last one at or below the key, if the next one isn't
pub begun_at : (key place low : ℕ) (lows : List ℕ) → IsStrictlyIncreasing lows → place < length lows
    → low ≡ slice_index_or lows place low → low ≤ key → begun key lows ≤ place + 1 → begun key lows ≡ place + 1
begun_at key place low lows rise inside is upto past = let so = begun_upto key place low lows rise inside is upto in omega (arith, so, past)

-- some bound is at or below each key
pub begun_some : (bounds : List ℕ) (key : ℕ) → slice_get bounds 0 ≡ Some 0 → IsStrictlyIncreasing bounds → 1 ≤ begun key bounds
begun_some bounds key first rise = some_before bounds key (begun key bounds) first (begun_parts key bounds rise)

-- the tree that is the last one to begin at or below the key
pub tree_begun : (bounds : List ℕ) (key tree : ℕ) → slice_get bounds 0 ≡ Some 0 → IsStrictlyIncreasing bounds → key < key_count
    → begun key bounds ≡ tree + 1 → IsTreeOf bounds key tree
tree_begun bounds key tree first rise fits is =
    let there = tree_at bounds key (begun key bounds) first (begun_few key bounds) fits (begun_parts key bounds rise) in
    let same : begun key bounds - 1 ≡ tree = omega (arith, is) in
    subst (IsTreeOf bounds key) same there
