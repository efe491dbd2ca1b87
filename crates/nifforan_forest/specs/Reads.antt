-- Pairs that were read: each was there at a moment.
use Rattle.std.specs.Prelude.{◌≡◌, ℕ, ◌<◌, ◌≤◌, true, List, Option, Some, slice_get}
use Rattle.bw_delta.specs.Entries.{at, rises}
use Rattle.bw_forest.specs.Bounds.{IsTreeOf}

-- between the two states there was one in which this was what the tree had at the key
pub record WasThere {H : Type 0} (follows : H → H → Type 0)
    (shows : H → ℕ → ℕ → List (ℕ × ℕ) → Type 0) (key : ℕ) (found : Option ℕ) (old new : H) : Type 0
  where
    pub between : H
    pub before : follows old between
    pub after : follows between new
    pub low : ℕ
    pub end : ℕ
    pub pairs : List (ℕ × ℕ)
    pub shown : shows between low end pairs
    pub from_low : low ≤ key
    pub below_end : key < end
    pub had : at key pairs ≡ found

-- the same of the tree whose range holds the key
pub record WasThereInItsTree {H : Type 0} (bounds : List ℕ) (follows : H → H → Type 0)
    (shows : H → ℕ → ℕ → List (ℕ × ℕ) → Type 0) (key : ℕ) (found : Option ℕ)
    (old new : List H) : Type 0 where
  pub tree : ℕ
  pub before : H
  pub after : H
  pub holds : IsTreeOf bounds key tree
  pub was : slice_get old tree ≡ Some before
  pub now : slice_get new tree ≡ Some after
  pub there : WasThere follows shows key found before after

-- the pairs rise strictly from the low on and below the end, and at each key between these is what
-- was there
pub record Reads (there : ℕ → Option ℕ → Type 0) (low end : ℕ) (pairs : List (ℕ × ℕ)) : Type 0 where
  pub rises : rises low end pairs ≡ true
  pub each : (key : ℕ) → low ≤ key → key < end → there key (at key pairs)
