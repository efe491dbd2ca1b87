-- A slice: the pairs of one leaf from a key on.
use Rattle.std.specs.Prelude.{◌≡◌, ℕ, ◌<◌, List, true, Option, Some, None, Result, Ok, Err}
use Rattle.bw_keys.specs.Ranges.{key_count}
use Rattle.bw_delta.specs.declared.fault.NoMemory.{NoMemory}
use Rattle.bw_delta.specs.Entries.{rises}
use Rattle.bw_procedures.specs.declared.reply.Slice.{Slice}

-- where the slice ends: at the next leaf, or above every key
abbrev pub end_of_slice : Option ℕ → ℕ
end_of_slice None = key_count
end_of_slice (Some next) = next

-- the keys rise strictly, from the key on and below the end, which is above the key
pub record IsSliceFrom (key : ℕ) (slice : Slice) : Type 0 where
  pub rises : rises key (end_of_slice slice.next) slice.pairs.items ≡ true
  pub next_above : key < end_of_slice slice.next

-- what an attempt answered, if it did, are the map's pairs
abbrev pub ShowsRead : (ℕ → ℕ → List (ℕ × ℕ) → Type 0) → ℕ → Result (Option Slice) NoMemory → Type 0
ShowsRead shows key (Ok None) = Unit {0}
ShowsRead shows key (Ok (Some slice)) = shows key (end_of_slice slice.next) slice.pairs.items
ShowsRead shows key (Err no_memory) = Unit {0}

abbrev pub IsReadFrom : ℕ → Result (Option Slice) NoMemory → Type 0
IsReadFrom key (Ok None) = Unit {0}
IsReadFrom key (Ok (Some slice)) = IsSliceFrom key slice
IsReadFrom key (Err no_memory) = Unit {0}
