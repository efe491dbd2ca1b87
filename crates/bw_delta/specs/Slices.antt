-- The entries of a slice, as one list.
use Rattle.std.specs.Prelude.{◌≡◌, ℕ, List, slice_index_or}
use Rattle.std.specs.List.{zip}
use Rattle.bw_delta.specs.declared.entry_slice.EntrySlice.{EntrySlice}

unfoldable pub list_of : {X : Type 0} → EntrySlice X → List (ℕ × X)
list_of slice = zip slice.keys.now slice.values.now

-- the entry at the place has the key
abbrev pub HasKeyAt : {X : Type 0} → List (ℕ × X) → ℕ → ℕ → Type 0
HasKeyAt {X} es place key = (x : X) × (◌≡◌ {A = ℕ × X} (key, x) (slice_index_or es place (key, x)))
