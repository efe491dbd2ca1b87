-- What the removal of a range does to the map, also where a fault ends it.
use Rattle.std.specs.Prelude.{◌≡◌, ◌⊎◌, ℕ, ◌+◌, ◌<◌, ◌≤◌}
use Rattle.bw_law.specs.Tables.{TableValue, Maps}

-- no pair is new, the keys out of the range stay, and this number of keys was removed
pub record Loses (low high removed : ℕ) (old new : TableValue) : Type 0 where
  pub fewer : (key value : ℕ) → Maps new.slots key value → Maps old.slots key value
  pub others : (key value : ℕ) → (key < low) ⊎ (high ≤ key) → Maps old.slots key value
      → Maps new.slots key value
  pub count : new.book.removed ≡ old.book.removed + removed
  pub no_more : new.book.inserted ≡ old.book.inserted
