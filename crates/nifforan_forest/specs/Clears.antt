-- What a clear does to the hands that a worker of a forest has on the trees.
use Rattle.std.specs.Prelude.{◌≡◌, ℕ, ◌+◌, max, min, List, [], ◌∷◌, Some, slice_get}
use Rattle.bw_keys.specs.declared.range.Range.{Range}
use Rattle.bw_keys.specs.Ranges.{end_of}
use Rattle.bw_forest.specs.Bounds.{IsTreeOf}
use Rattle.bw_procedures.specs.Clearing.{AddsRemovals, IsSwept}
use Rattle.bw_procedures.specs.Seen.{Seen, Grows}

-- what each hand does, by a count of its own, and all counts together
abbrev pub Together : {H : Type 0} → (ℕ → H → H → Type 0) → List H → List H → ℕ → Type 0
Together does [] [] count = count ≡ 0
Together does (old ∷ olds) (new ∷ news) count =
    (own others : ℕ) × does own old new × Together does olds news others × (count ≡ own + others)
Together does olds news count = ⊥

-- a hand added the receipts of deletions of keys from the low on and below the end that lie in its
-- tree's range, so many of which had a key to delete
pub record Removes {H : Type 0} (seen : H → Seen) (follows : H → H → Type 0) (range : H → Range)
    (low end removed : ℕ) (old new : H) : Type 0 where
  pub followed : follows old new
  pub grows : Grows (seen old) (seen new)
  pub receipts : AddsRemovals (max low (range old).low) (min end (end_of (range old).high)) removed
      (seen old) (seen new)

-- at a moment of the call, the tree whose range holds the key had none, or the key was deleted
-- there since
pub record SweepsKey {H : Type 0} (bounds : List ℕ) (seen : H → Seen) (follows : H → H → Type 0)
    (shows : H → ℕ → ℕ → List (ℕ × ℕ) → Type 0) (key : ℕ) (old new : List H) : Type 0 where
  pub tree : ℕ
  pub before : H
  pub after : H
  pub holds : IsTreeOf bounds key tree
  pub was : slice_get old tree ≡ Some before
  pub now : slice_get new tree ≡ Some after
  pub swept : IsSwept seen follows shows key before after
