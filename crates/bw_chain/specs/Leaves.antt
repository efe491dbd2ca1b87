-- Pairs of a leaf that are appended to a list.
use Rattle.std.specs.Prelude.{◌≡◌, ℕ, ◌<◌, ◌^◌, true, List, ◌++◌, length, take, Option, Some, None}
use Rattle.bw_keys.specs.declared.range.Fence.{Fence}
use Rattle.bw_keys.specs.Ranges.{end_of}
use Rattle.bw_delta.specs.Entries.{below, rises}

-- The pairs are all that the key's leaf has from the key on, up to the leaf's end. The first of
-- those below the high, as many as the limit allows, were appended.
pub record AppendsLeaf (shows : ℕ → ℕ → List (ℕ × ℕ) → Type 0) (key high limit end : ℕ)
    (old new : List (ℕ × ℕ)) : Type 0 where
  pub pairs : List (ℕ × ℕ)
  pub shown : shows key end pairs
  pub rise : rises key end pairs ≡ true
  pub above : key < end
  pub counted : length (below high pairs) < 2 ^ 64
  pub appended : new ≡ old ++ take limit (below high pairs)

-- the leaf that ends here was read, or nothing was done
abbrev pub ReadsLeaf : (ℕ → ℕ → List (ℕ × ℕ) → Type 0) → ℕ → Fence → ℕ → Option Fence
    → List (ℕ × ℕ) → List (ℕ × ℕ) → Type 0
ReadsLeaf shows key high limit None old new = new ≡ old
ReadsLeaf shows key high limit (Some end) old new =
    AppendsLeaf shows key (end_of high) limit (end_of end) old new
