-- What one worker that has a table for itself knows of it.
use Rattle.std.specs.Prelude.{◌≡◌, ℕ, ◌<◌, ◌≤◌, true}
use Rattle.bw_keys.specs.Ranges.{end_of}
use Rattle.bw_step.specs.Stages.{is_in_row}
use Rattle.bw_law.specs.Tables.{TableValue, slot_at}
use Rattle.bw_table.specs.Visits.{IsOnTheWay}
use Rattle.bw_procedures.specs.Facts.{Fact, quiet, on_the_way, holds, fresh}

-- the page is in the row of the level, with a range that holds the key
pub record HoldsKey (table : TableValue) (key level page : ℕ) : Type 0 where
  pub in_row : is_in_row (slot_at table page).stage ≡ true
  pub on_level : (slot_at table page).level ≡ level
  pub from_low : (slot_at table page).low ≤ key
  pub below_high : key < end_of (slot_at table page).high

-- a fact is true of the table, which nobody else changes
abbrev pub IsTrueOf : TableValue → Fact → Type 0
IsTrueOf table quiet = Unit {0}
IsTrueOf table (on_the_way key goal place) = IsOnTheWay table place key goal
IsTrueOf table (holds key level pid) = HoldsKey table key level pid.0
IsTrueOf table (fresh pid version) = (slot_at table pid.0).version ≡ version.0
