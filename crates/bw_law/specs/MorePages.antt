-- The table with more pages, and what it keeps.
use Rattle.std.specs.Prelude.{◌≡◌, ◌↔◌, ℕ, zero, suc, ◌+◌, ◌<◌, ◌≤◌, ◌^◌, List, [], ◌∷◌, ◌++◌, length, replicate}
use Rattle.bw_keys.specs.declared.config.Config.{Config}
use Rattle.bw_law.specs.declared.pages.TheConstants.{MAX_PAGES}
use Rattle.bw_law.specs.Slots.{free_slot}
use Rattle.bw_law.specs.Walks.{IsRowOf, IsWalkFrom}
use Rattle.bw_law.specs.Tables.{TableValue, slot_at, outlines, Lawful, Booked, SameMap, joined_pairs, new_table}

-- that many ids from the first on, the greatest first
abbrev pub ids_from : ℕ → ℕ → List ℕ
ids_from first zero = []
ids_from first (suc n) = (first + n) ∷ ids_from first n

abbrev pub more_pages : ℕ → Config → Config
more_pages more config = record config { pages = config.pages + more }

-- the table with that many slots more. They are free, and their ids are given after those
-- that were free before, the least first
abbrev pub with_more_pages : ℕ → TableValue → TableValue
with_more_pages more table = record {
  slots = table.slots ++ replicate more (free_slot table.config.first_version);
  free = ids_from table.config.pages more ++ table.free;
  root = table.root;
  book = table.book;
  config = more_pages more table.config;
}

-- the new table is lawful and booked; it has each slot that the old one had, its map and its rows,
-- each search goes the way that it went, and so many more pages are free
pub record KeptWithMorePages (more : ℕ) (old new : TableValue) : Type 0 where
  pub lawful : Lawful new
  pub booked : Booked new
  pub slots : (page : ℕ) → page < length old.slots → slot_at new page ≡ slot_at old page
  pub map : SameMap old.slots new.slots
  pub pairs : (row : List ℕ) → joined_pairs new.slots row ≡ joined_pairs old.slots row
  pub rows : (top level : ℕ) (row : List ℕ)
      → IsRowOf (outlines new.slots) top level row ↔ IsRowOf (outlines old.slots) top level row
  pub walks : (key : ℕ) (walk : List ℕ)
      → IsWalkFrom (outlines new.slots) new.root key walk
      ↔ IsWalkFrom (outlines old.slots) old.root key walk
  pub free : length new.free ≡ length old.free + more

abbrev pub MorePagesLaw : Type 0
MorePagesLaw =
    (table : TableValue) (more : ℕ) → Lawful table → Booked table
    → table.config.pages + more ≤ MAX_PAGES → table.config.first_version < 2 ^ 64
    → KeptWithMorePages more table (with_more_pages more table)

-- a new table with more pages is the one that is made with them
abbrev pub SameAsNewLaw : Type 0
SameAsNewLaw =
    (config : Config) (more : ℕ) → 1 ≤ config.pages
    → with_more_pages more (new_table config) ≡ new_table (more_pages more config)
