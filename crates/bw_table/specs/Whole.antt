-- What is true of each table, at every moment outside its own calls.
use Rattle.std.specs.Prelude.{ℕ, ◌≤◌, List, length}
use Rattle.bw_keys.specs.declared.config.Config.{Config}
use Rattle.bw_step.specs.declared.survey.Book.{Book}
use Rattle.bw_law.specs.Slots.{SlotValue}
use Rattle.bw_law.specs.Tables.{TableValue, Lawful, Booked}

-- the table with these parts
abbrev pub table_of : List SlotValue → List ℕ → ℕ → Book → Config → TableValue
table_of slots free root book config =
    record { slots = slots; free = free; root = root; book = book; config = config }

-- the table is lawful and booked, and its free list has room for every id
pub record IsWhole (table : TableValue) (room : ℕ) : Type 0 where
  pub lawful : Lawful table
  pub booked : Booked table
  pub free_room : length table.slots ≤ room
