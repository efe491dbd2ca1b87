-- Which tables make a closed forest, and why others don't.
use Rattle.std.specs.Prelude.{◌≡◌, ◌≢◌, ℕ, ◌<◌, List, Some, length, slice_get}
use Rattle.bw_keys.specs.declared.range.Range.{Range}
use Rattle.bw_law.specs.Tables.{TableValue}
use Rattle.bw_forest.specs.Bounds.{ranges_of}
use Rattle.bw_forest.specs.Forests.{AreAlike, config_of}
use Rattle.bw_tree.specs.Ranges.{LiesIn}
use Rattle.bw_forest.specs.declared.fault.BadTables.{BadTables}
use Rattle.bw_forest.specs.declared.fault.BadTables.TheVariants.{BadNumber, OtherConfig, PairOutside, NoMemory}

-- the table with this number was made by the configuration of the first
abbrev pub IsAlike : List TableValue → ℕ → Type 0
IsAlike tables tree =
    (table : TableValue) → slice_get tables tree ≡ Some table → table.config ≡ config_of tables

-- the table with this number has its pairs in the range with the number
abbrev pub LiesInItsRange : List ℕ → List TableValue → ℕ → Type 0
LiesInItsRange bounds tables tree =
    (range : Range) (table : TableValue) → slice_get (ranges_of bounds) tree ≡ Some range
    → slice_get tables tree ≡ Some table → LiesIn range table.slots

-- there is a table for each range, with its pairs there, and one configuration made all
pub record FitRanges (bounds : List ℕ) (tables : List TableValue) : Type 0 where
  pub number : length tables ≡ length bounds
  pub alike : AreAlike tables
  pub within : (tree : ℕ) → LiesInItsRange bounds tables tree

-- the fact holds of all numbers before this one, and not of this one
abbrev pub IsFirstWithout : (ℕ → Type 0) → ℕ → Type 0
IsFirstWithout fact tree = (fact tree → ⊥) × ((before : ℕ) → before < tree → fact before)

-- why the tables make no closed forest of these ranges
abbrev pub IsBadTables : List ℕ → List TableValue → BadTables → Type 0
IsBadTables bounds tables BadNumber = length tables ≢ length bounds
IsBadTables bounds tables (OtherConfig tree) =
    (length tables ≡ length bounds) × IsFirstWithout (IsAlike tables) tree
IsBadTables bounds tables (PairOutside tree) =
    (length tables ≡ length bounds) × AreAlike tables
    × IsFirstWithout (LiesInItsRange bounds tables) tree
IsBadTables bounds tables NoMemory = FitRanges bounds tables
