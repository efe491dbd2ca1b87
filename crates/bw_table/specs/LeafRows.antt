-- The pages by which the leaf row is read from its first leaf on.
use Rattle.std.specs.Prelude.{◌≡◌, ℕ, true}
use Rattle.bw_step.specs.Stages.{is_in_row}
use Rattle.bw_law.specs.Tables.{TableValue, slot_at}

-- a page in a row that begins at the least key
pub record IsRowStart (table : TableValue) (page : ℕ) : Type 0 where
  pub in_row : is_in_row (slot_at table page).stage ≡ true
  pub at_least_key : (slot_at table page).low ≡ 0
