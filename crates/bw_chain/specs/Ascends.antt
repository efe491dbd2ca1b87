-- Entries with strictly rising keys.
use Rattle.std.specs.Prelude.{◌≡◌, ℕ, List, true}
use Rattle.bw_keys.specs.Ranges.{key_count}
use Rattle.bw_delta.specs.Entries.{rises}

abbrev pub IsAscending : {X : Type 0} → List (ℕ × X) → Type 0
IsAscending es = rises 0 key_count es ≡ true
