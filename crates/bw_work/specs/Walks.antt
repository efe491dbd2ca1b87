-- A walk along the map, page by page.
use Rattle.std.specs.Prelude.{◌≡◌, ℕ, ◌-◌, List, Option, Some, None, Result, Ok, Err}
use Rattle.bw_keys.specs.Ranges.{key_count}
use Rattle.bw_procedures.specs.declared.fault.Fault.{Fault}
use Rattle.bw_procedures.specs.declared.reply.Slice.{Slice}
use Rattle.bw_procedures.specs.Slices.{end_of_slice, IsSliceFrom}

-- The page begins where the walk stands, has the pairs that are shown up to where it ends, and the walk stands there then. Nothing comes past the
-- last page, or past a fault.
abbrev pub IsNextPage : (ℕ → ℕ → List (ℕ × ℕ) → Type 0) → Option ℕ → Option (Result Slice Fault) → Option ℕ → Type 0
IsNextPage shows None page next = (page ≡ None) × (next ≡ None)
IsNextPage shows (Some key) (Some (Ok slice)) next = IsSliceFrom key slice × shows key (end_of_slice slice.next) slice.pairs.items × (next ≡ slice.next)
IsNextPage shows (Some key) (Some (Err fault)) next = next ≡ None
IsNextPage shows (Some key) None next = ⊥

-- how many keys lie before a walk
abbrev pub keys_left : Option ℕ → ℕ
keys_left None = 0
keys_left (Some key) = key_count - key
