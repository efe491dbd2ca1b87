-- What a call of one key does to the hands that a worker of a forest has on the trees.
use Rattle.std.specs.Prelude.{◌≡◌, ℕ, List, Some, slice_get, slice_set}
use Rattle.bw_keys.specs.declared.range.Range.{Range}
use Rattle.bw_keys.specs.Ranges.{Holds}
use Rattle.bw_forest.specs.Bounds.{IsTreeOf}

-- The call was made by the hand on the tree whose range holds the key, and the hands on all other
-- trees stay as they were.
pub record IsOfOne {H : Type 0} (bounds : List ℕ) (range : H → Range) (key : ℕ)
    (follows call : H → H → Type 0) (old new : List H) : Type 0 where
  pub tree : ℕ
  pub before : H
  pub after : H
  pub holds : IsTreeOf bounds key tree
  pub at : slice_get old tree ≡ Some before
  pub on : Holds (range before) key
  pub others : new ≡ slice_set old tree after
  pub followed : follows before after
  pub called : call before after
