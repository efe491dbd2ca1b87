-- The bounds between the parts of pairs.
use Rattle.std.proofs.Common.{◌≡◌, ℕ, zero, suc, ◌+◌, ◌<◌, ◌≤◌, true, false, List, [], ◌∷◌, ◌++◌, length, add-one, take, drop, drop-cons, length-append, slice_index_or, slice_range, Option, Some, slice_get, refl, sym, ap, subst, ◌∙◌, ⊎_elim, arith}
use Rattle.std.specs.Prelude.{is_some, max, slice_index, unwrap_or}
use Rattle.std.specs.List.Sorted.{IsStrictlyIncreasing}
use Rattle.std.proofs.lemmas.Bool.{cases_lt}
use Rattle.std.proofs.lemmas.Bool.Decides.{nat_tests}
use Rattle.std.proofs.lemmas.List.{get_or-map, length-map, take-append-drop}
use Rattle.std.proofs.lemmas.List.Folds.{drop_split}
use Rattle.std.proofs.lemmas.Nat.{le-div}
use Rattle.std.proofs.lemmas.Option.{get_or_from_slice_get, slice_get-get_or, slice_get_past, slice_get_within}
use Rattle.bw_keys.specs.declared.config.Config.{Config}
use Rattle.bw_keys.specs.declared.range.Range.{Range}
use Rattle.bw_keys.specs.Ranges.{Holds, end_of, key_count}
use Rattle.bw_delta.specs.Entries.{at, rises}
use Rattle.bw_delta.proofs.Rises.{there-below, there-from}
use Rattle.bw_forest.specs.Bounds.{AreBounds, IsBad, is_bad_number}
use Rattle.bw_forest.specs.declared.fault.BadBounds.{BadBounds}
use Rattle.bw_forest.specs.declared.fault.BadBounds.TheVariants.{BadTrees, NotFromZero, NotRising, NoMemory}
use Rattle.bw_forest.specs.declared.fault.BadTables.{BadTables}
use Rattle.bw_forest.specs.declared.fault.BadTables.TheVariants as tables_fault
use Rattle.bw_forest.specs.Fitting.{IsBadTables, LiesInItsRange}
use Rattle.bw_forest.proofs.Bounding.{fence_at, range_at}
use Rattle.bw_forest.proofs.Fits.{first_config}
use Rattle.bw_law.specs.Tables.{TableValue}
use Rattle.nifforan.specs.Maps.{PairList}
use Rattle.nifforan_balance.specs.Balancing.{BeginAtParts, HaveParts, keys_of, parts_for, place_of}
use Rattle.nifforan_balance.proofs.Dividing.{back_rises, place_inside, place_steps, places_rise}

-- Keys.

tail_rises : (low end : ℕ) (e : ℕ × ℕ) (es : PairList) → rises low end (e ∷ es) ≡ true → (low ≤ e.0) × (rises (e.0 + 1) end es ≡ true)
tail_rises low end e es rise = (grind (arith, nat_tests, rise), grind (arith, nat_tests, rise))

key_from : (low end i : ℕ) (es : PairList) → rises low end es ≡ true → i < length es → low + i ≤ slice_index (keys_of es) i
key_from low end i [] rise less = absurd (omega (arith, less))
key_from low end zero (e ∷ es) rise less = let first = (tail_rises low end e es rise).0 in omega (arith, first)
key_from low end (suc i) (e ∷ es) rise less =
    let parts = tail_rises low end e es rise in
    let rest = key_from (e.0 + 1) end i es parts.1 (omega (arith, less)) in
    omega (arith, parts.0, rest)

keys_rise : (low end i j : ℕ) (es : PairList) → rises low end es ≡ true → i < j → j < length es
    → slice_index (keys_of es) i < slice_index (keys_of es) j
keys_rise low end i j [] rise before less = absurd (omega (arith, less))
keys_rise low end i zero (e ∷ es) rise before less = absurd (omega (arith, before))
keys_rise low end zero (suc j) (e ∷ es) rise before less =
    let rest = key_from (e.0 + 1) end j es (tail_rises low end e es rise).1 (omega (arith, less)) in
    omega (arith, rest)
keys_rise low end (suc i) (suc j) (e ∷ es) rise before less =
    keys_rise (e.0 + 1) end i j es (tail_rises low end e es rise).1 (omega (arith, before)) (omega (arith, less))

-- Bounds.

module _ (pairs : PairList) (parts : ℕ) (lows : List ℕ) (rise : rises 0 key_count pairs ≡ true) (few : parts ≤ max (length pairs) 1)
    (begin : BeginAtParts pairs parts lows) where
  low_at : (tree : ℕ) → 0 < tree → tree < parts → slice_index lows tree ≡ slice_index (keys_of pairs) (place_of (length pairs) parts tree)
  low_at tree some less =
      begin.begin tree some less
      ∙ ap (λ n. slice_index (keys_of pairs) (place_of n parts tree)) (length-map pairs (λ (p : ℕ × ℕ). p.0))

  first_low : slice_index lows 0 ≡ 0
  first_low = zero_first lows begin.from_zero
    where
      zero_first : (lows : List ℕ) → slice_get lows 0 ≡ Some 0 → slice_index lows 0 ≡ 0
      zero_first [] is = absurd (cc (is))
      zero_first (low ∷ lows) is = ap (λ (o : Option ℕ). unwrap_or o low) is

  bounds_rise : IsStrictlyIncreasing lows
  bounds_rise zero less =
      let n = length pairs in
      let below : 1 < parts = omega (arith, less, begin.number) in
      let one = le-div 1 n parts (omega (arith, below)) (omega (arith, below, few)) in
      let at = (place_steps n parts 0 (omega (arith, below))).0 in
      let inside = place_inside n parts 1 (omega (arith, below, few)) below in
      let key = key_from 0 key_count (place_of n parts 1) pairs rise inside in
      let low = low_at 1 (omega arith) below in
      omega (arith, first_low, low, key, at, one)
  bounds_rise (suc k) less =
      let n = length pairs in
      let below : suc k + 1 < parts = omega (arith, less, begin.number) in
      let one = le-div 1 n parts (omega (arith, below)) (omega (arith, below, few)) in
      let at = (place_steps n parts (suc k) (omega (arith, below))).0 in
      let inside = place_inside n parts (suc k + 1) (omega (arith, below, few)) below in
      let later : place_of n parts (suc k) < place_of n parts (suc k + 1) = omega (arith, at, one) in
      let keys = keys_rise 0 key_count (place_of n parts (suc k)) (place_of n parts (suc k + 1)) pairs rise later inside in
      let this = low_at (suc k) (omega arith) (omega (arith, below)) in
      let next = low_at (suc k + 1) (omega arith) below in
      omega (arith, this, next, keys)

  -- the lows are bounds
  pub are_bounds : (trees : ℕ) → is_bad_number trees ≡ false → parts ≡ parts_for trees (length pairs) → AreBounds lows
  are_bounds trees fine many = record {
    number = grind (arith, nat_tests, fine, many, begin.number);
    from_zero = begin.from_zero;
    rise = bounds_rise;
  }

-- and no fault says otherwise
pub not_bad : (lows : List ℕ) (fault : BadBounds) → AreBounds lows → IsBad lows fault → ⊥
not_bad lows BadTrees are bad = cc (are.number, bad)
not_bad lows NotFromZero are bad = bad.1 are.from_zero
not_bad lows NotRising are bad = bad.2 are.rise
not_bad lows NoMemory are bad = bad

-- Parts.

front_rises : (low end : ℕ) (es fs : PairList) → rises low end (es ++ fs) ≡ true → rises low end es ≡ true
front_rises low end [] fs rise = refl
front_rises low end (e ∷ es) fs rise =
    let parts = tail_rises low end e (es ++ fs) rise in
    let others = front_rises (e.0 + 1) end es fs parts.1 in
    grind (arith, nat_tests, rise, others)

rises_upto : (low end : ℕ) (p : ℕ × ℕ) (es fs : PairList) → rises low end (es ++ p ∷ fs) ≡ true → rises low p.0 es ≡ true
rises_upto low end p [] fs rise = refl
rises_upto low end p (e ∷ es) fs rise =
    let parts = tail_rises low end e (es ++ p ∷ fs) rise in
    let others = rises_upto (e.0 + 1) end p es fs parts.1 in
    let behind = key_from (e.0 + 1) end (length es) (es ++ p ∷ fs) parts.1 (omega (arith, length-append es (p ∷ fs))) in
    let last : slice_index (keys_of (es ++ p ∷ fs)) (length es) ≡ p.0 = key_behind es fs p in
    grind (arith, nat_tests, others, parts.0, behind, last)
  where
    key_behind : (es fs : PairList) (p : ℕ × ℕ) → slice_index (keys_of (es ++ p ∷ fs)) (length es) ≡ p.0
    key_behind [] fs p = refl
    key_behind (e ∷ es) fs p = key_behind es fs p

rises_from : (low end : ℕ) (e : ℕ × ℕ) (es : PairList) → rises low end (e ∷ es) ≡ true → rises e.0 end (e ∷ es) ≡ true
rises_from low end e es rise = grind (arith, nat_tests, rise)

module _ (pairs : PairList) (a b key value : ℕ) (rise : rises 0 key_count pairs ≡ true) (le : a ≤ b)
    (found : at key (slice_range pairs a b) ≡ Some value) where
  abbrev slice : PairList
  slice = slice_range pairs a b

  behind_a : rises 0 key_count (drop a pairs) ≡ true
  behind_a = back_rises 0 key_count (take a pairs) (drop a pairs) (ap (rises 0 key_count) (take-append-drop a pairs) ∙ rise)

  is_key : key < key_count
  is_key =
      let all = ap (rises 0 key_count) (sym (drop_split pairs a b le)) ∙ behind_a in
      there-below key_count 0 key slice (ap is_some found) (front_rises 0 key_count slice (drop b pairs) all)

  not_before : a < length pairs → slice_index (keys_of pairs) a ≤ key
  not_before less =
      let first = slice_index_or pairs a (0, 0) in
      let split : drop a pairs ≡ first ∷ drop (suc a) pairs = drop-cons pairs a (0, 0) less in
      let own = rises_from 0 key_count first (drop (suc a) pairs) (ap (rises 0 key_count) (sym split) ∙ behind_a) in
      let all = ap (rises first.0 key_count) (sym (drop_split pairs a b le) ∙ split) ∙ own in
      let from = there-from key_count first.0 key slice (ap is_some found) (front_rises first.0 key_count slice (drop b pairs) all) in
      let same = get_or-map (λ (p : ℕ × ℕ). p.0) pairs a (0, 0) 0 less in
      omega (arith, from, same)

  not_past : b < length pairs → key < slice_index (keys_of pairs) b
  not_past less =
      let next = slice_index_or pairs b (0, 0) in
      let split : drop b pairs ≡ next ∷ drop (suc b) pairs = drop-cons pairs b (0, 0) less in
      let behind : rises 0 key_count (slice ++ drop b pairs) ≡ true = ap (rises 0 key_count) (sym (drop_split pairs a b le)) ∙ behind_a in
      let all = ap (λ (l : PairList). rises 0 key_count (slice ++ l)) (sym split) ∙ behind in
      let below = there-below next.0 0 key slice (ap is_some found) (rises_upto 0 key_count next slice (drop (suc b) pairs) all) in
      let same = get_or-map (λ (p : ℕ × ℕ). p.0) pairs b (0, 0) 0 less in
      omega (arith, below, same)

-- Tables.

module _ (made : Config) (pairs : PairList) (parts : ℕ) (lows : List ℕ) (tables : List TableValue) (rise : rises 0 key_count pairs ≡ true)
    (few : parts ≤ max (length pairs) 1) (begin : BeginAtParts pairs parts lows) (number : length tables ≡ parts)
    (have : HaveParts made pairs parts tables) where
  -- the pairs of a part lie in its range
  lie_in : (tree : ℕ) → LiesInItsRange lows tables tree
  lie_in tree range table ranged got key value maps =
      let n = length pairs in
      let less : tree < parts = omega (arith, slice_get_within tables tree table got, number) in
      let some : 0 < parts = omega (arith, less) in
      let le = places_rise n parts tree (tree + 1) some (omega arith) in
      let found = ((have.each tree table got).same key value).1 maps in
      let from = place_of n parts tree in
      let to = place_of n parts (tree + 1) in
      let own : Range = record { low = slice_index lows tree; high = fence_at (slice_get lows (suc tree)) } in
      let same : own ≡ range =
      ap (λ (o : Option Range). unwrap_or o own) (sym (range_at lows tree (omega (arith, less, begin.number))) ∙ ranged) in
      subst (λ (r : Range). Holds r key) same (
        begins tree less (not_before pairs from to key value rise le found),
        ends tree less (not_past pairs from to key value rise le found) (is_key pairs from to key value rise le found),
      )
    where
      begins : (tree : ℕ) → tree < parts
          → (place_of (length pairs) parts tree < length pairs → slice_index (keys_of pairs) (place_of (length pairs) parts tree) ≤ key)
          → slice_index lows tree ≤ key
      begins zero less from = omega (arith, first_low pairs parts lows rise few begin)
      begins (suc k) less from =
          let inside = place_inside (length pairs) parts (suc k) (omega (arith, less, few)) less in
          let low = low_at pairs parts lows rise few begin (suc k) (omega arith) less in
          let above = from inside in
          omega (arith, low, above)

      ends : (tree : ℕ) → tree < parts
          → (place_of (length pairs) parts (tree + 1) < length pairs
          → key < slice_index (keys_of pairs) (place_of (length pairs) parts (tree + 1)))
          → key < key_count → key < end_of (fence_at (slice_get lows (suc tree)))
      ends tree less below is = ⊎_elim
          (λ (next : suc tree < parts).
          let inside = place_inside (length pairs) parts (tree + 1) (omega (arith, next, few)) (omega (arith, next)) in
          let low = low_at pairs parts lows rise few begin (tree + 1) (omega arith) (omega (arith, next)) in
          let under = below inside in
          let there = slice_get-get_or lows (suc tree) 0 (omega (arith, next, begin.number)) in
          let as_next : slice_index lows (tree + 1) ≡ slice_index_or lows (suc tree) 0 = ap (slice_index lows) (add-one tree) in
          let upto : key < slice_index_or lows (suc tree) 0 = omega (arith, low, under, as_next) in
          rw there upto)
          (λ (last : parts ≤ suc tree).
          let none = slice_get_past lows (suc tree) (omega (arith, last, begin.number)) in
          rw none is)
          (cases_lt (suc tree) parts)

  -- so only want of memory keeps them from being a forest
  pub fit : (fault : BadTables) → (fault ≡ tables_fault.NoMemory → ⊥) → IsBadTables lows tables fault → ⊥
  fit tables_fault.BadNumber other bad = bad (number ∙ sym begin.number)
  fit (tables_fault.OtherConfig tree) other bad =
      bad.1.0 (λ table got.
      let less = slice_get_within tables tree table got in
      let own = have.config tree table less in
      let at = get_or_from_slice_get tables tree table table got in
      ap (λ (t : TableValue). t.config) (sym at)
      ∙ (own ∙ sym (first_config made tables (omega (arith, less)) have.config)))
  fit (tables_fault.PairOutside tree) other bad = bad.2.0 (lie_in tree)
  fit tables_fault.NoMemory other bad = other refl
