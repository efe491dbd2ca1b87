-- What the removal of a range leaves of the map.
use Rattle.std.specs.Prelude.{◌↔◌, ◌⊎◌, ℕ, ◌<◌, ◌≤◌, List}
use Rattle.bw_law.specs.Slots.{SlotValue}
use Rattle.bw_law.specs.Tables.{Maps}

-- the new map is the old one without its keys from the low on and below the high
abbrev pub IsMapWithout : ℕ → ℕ → List SlotValue → List SlotValue → Type 0
IsMapWithout low high old new = (key value : ℕ) → Maps new key value ↔ (Maps old key value × ((key < low) ⊎ (high ≤ key)))
