-- Ranges that part the keys, each by where it begins.
use Rattle.std.specs.Prelude.{◌≡◌, ℕ, ◌*◌, ◌/◌, ◌<◌, ◌≤◌, Bool, true, false, List, [], ◌∷◌, length, max, Some, slice_get, slice_index, Contains, filter, nat_le}
use Rattle.std.specs.List.Sorted.{IsStrictlyIncreasing, IsNonDecreasing, IsPermutation}
use Rattle.bw_keys.specs.declared.range.Fence.{Fence}
use Rattle.bw_keys.specs.declared.range.Fence.TheVariants.{Key, Top}
use Rattle.bw_keys.specs.declared.range.Range.{Range}
use Rattle.bw_keys.specs.Limits.{is_out_of}
use Rattle.bw_keys.specs.Ranges.{Holds}
use Rattle.bw_forest.specs.declared.limits.TheConstants.{MAX_TREES}
use Rattle.bw_forest.specs.declared.fault.BadBounds.{BadBounds}
use Rattle.bw_forest.specs.declared.fault.BadBounds.TheVariants.{BadTrees, NotFromZero, NotRising, NoMemory}

-- there are no trees, or too many
abbrev pub is_bad_number : ℕ → Bool
is_bad_number trees = is_out_of 1 MAX_TREES trees

-- the first range begins at 0, and each above the one before it
pub record AreBounds (bounds : List ℕ) : Type 0 where
  pub number : is_bad_number (length bounds) ≡ false
  pub from_zero : slice_get bounds 0 ≡ Some 0
  pub rise : IsStrictlyIncreasing bounds

-- a range ends where the next begins, and the last has every key from its low on
abbrev pub end_before : List ℕ → Fence
end_before [] = Top
end_before (low ∷ lows) = Key low

abbrev pub ranges_of : List ℕ → List Range
ranges_of [] = []
ranges_of (low ∷ lows) = record { low = low; high = end_before lows } ∷ ranges_of lows

-- the range of the tree with this number holds the key
abbrev pub IsTreeOf : List ℕ → ℕ → ℕ → Type 0
IsTreeOf bounds key tree =
    (range : Range) × (slice_get (ranges_of bounds) tree ≡ Some range) × Holds range key

-- how many of the ranges begin at or below the key
abbrev pub begun : ℕ → List ℕ → ℕ
begun key bounds = length (filter (λ low. nat_le low key) bounds)

-- why there are no bounds that begin at these keys
abbrev pub IsBad : List ℕ → BadBounds → Type 0
IsBad lows BadTrees = is_bad_number (length lows) ≡ true
IsBad lows NotFromZero =
    (is_bad_number (length lows) ≡ false) × (slice_get lows 0 ≡ Some 0 → ⊥)
IsBad lows NotRising = (is_bad_number (length lows) ≡ false) × (slice_get lows 0 ≡ Some 0)
    × (IsStrictlyIncreasing lows → ⊥)
IsBad lows NoMemory = ⊥

-- why there are no bounds of so many trees: too few or too many, or want of memory
abbrev pub IsBadNumber : ℕ → BadBounds → Type 0
IsBadNumber trees BadTrees = is_bad_number trees ≡ true
IsBadNumber trees NotFromZero = ⊥
IsBadNumber trees NotRising = ⊥
IsBadNumber trees NoMemory = is_bad_number trees ≡ false

-- how many keys each range has, of those below the end
abbrev pub width : ℕ → ℕ → ℕ
width trees end = max 1 (end / trees)

-- so many ranges of that width, one after the other
pub record AreEven (trees end : ℕ) (bounds : List ℕ) : Type 0 where
  pub number : length bounds ≡ trees
  pub even : (tree : ℕ) → tree < trees → slice_index bounds tree ≡ tree * width trees end

-- the key at the tree's part of the way through the sorted keys; 0 where there are none
abbrev pub quantile : List ℕ → ℕ → ℕ → ℕ
quantile sorted tree trees = slice_index sorted (tree * length sorted / trees)

-- the ranges begin at 0 and at the quantiles, and nowhere else
pub record AreAtQuantiles (sorted : List ℕ) (trees : ℕ) (bounds : List ℕ) : Type 0 where
  pub few : length bounds ≤ trees
  pub each : (tree : ℕ) → 0 < tree → tree < trees → Contains bounds (quantile sorted tree trees)
  pub only : (low : ℕ) → Contains bounds low → 0 < low
      → (tree : ℕ) × (tree < trees) × (low ≡ quantile sorted tree trees)

-- those of the keys, sorted
pub record AreOfSample (keys : List ℕ) (trees : ℕ) (bounds : List ℕ) : Type 0 where
  pub sorted : List ℕ
  pub are_sorted : IsNonDecreasing sorted
  pub same : IsPermutation keys sorted
  pub at_quantiles : AreAtQuantiles sorted trees bounds
