-- Forests whose trees have equally many pairs each.
use Rattle.std.specs.Prelude.{◌≡◌, ℕ, ◌+◌, ◌*◌, ◌/◌, ◌<◌, ◌≤◌, true, false, List, All, Some, length, map, max, min, slice_get, slice_index, slice_range, take}
use Rattle.bw_forest.specs.Bounds.{is_bad_number, quantile}
use Rattle.bw_forest.specs.Forests.{AreInARow, ForestValue, IsForestMap, config_of}
use Rattle.bw_keys.specs.declared.config.Config.{Config}
use Rattle.bw_law.specs.Laws.{IsTheMap}
use Rattle.bw_law.specs.Tables.{TableValue}
use Rattle.bw_procedures.specs.declared.fault.Fault.{Fault}
use Rattle.bw_procedures.specs.declared.fault.Fault.TheVariants.{TableFull}
use Rattle.nifforan.specs.Filling.{AreAllTaken, AreFirstOf}
use Rattle.nifforan.specs.Maps.{PairList}
use Rattle.nifforan_balance.specs.declared.fault.BalanceFault.{BalanceFault}
use Rattle.nifforan_balance.specs.declared.fault.BalanceFault.TheVariants.{BadTrees, Put}

-- how many parts so many pairs are divided into: one for each tree, and none that is empty but the
-- one where there are no pairs
abbrev pub parts_for : ℕ → ℕ → ℕ
parts_for trees count = min trees (max count 1)

-- how many of so many pairs come before the part with this number
abbrev pub place_of : ℕ → ℕ → ℕ → ℕ
place_of count parts number = number * count / parts

-- the pairs of the part with this number
abbrev pub part : PairList → ℕ → ℕ → PairList
part pairs parts number =
    slice_range pairs (place_of (length pairs) parts number)
    (place_of (length pairs) parts (number + 1))

abbrev pub keys_of : PairList → List ℕ
keys_of pairs = map (λ (pair : ℕ × ℕ). pair.0) pairs

-- the first range begins at 0, and each other at the first key of its part, a quantile of the keys
pub record BeginAtParts (pairs : PairList) (parts : ℕ) (lows : List ℕ) : Type 0 where
  pub number : length lows ≡ parts
  pub from_zero : slice_get lows 0 ≡ Some 0
  pub begin : (tree : ℕ) → 0 < tree → tree < parts
      → slice_index lows tree ≡ quantile (keys_of pairs) tree parts

-- each of the first tables has the part with its number, and all have one configuration
pub record HaveParts (made : Config) (pairs : PairList) (parts : ℕ)
    (tables : List TableValue) : Type 0 where
  pub in_a_row : AreInARow tables (take (place_of (length pairs) parts (length tables)) pairs)
  pub each : (tree : ℕ) (table : TableValue) → slice_get tables tree ≡ Some table
      → IsTheMap table (part pairs parts tree)
  pub config : All (λ table. table.config ≡ made) tables

-- as many pairs as each other part has, or one more
abbrev pub IsEvenShare : ℕ → ℕ → ℕ → Type 0
IsEvenShare count parts size = (count / parts ≤ size) × (size ≤ count / parts + 1)

-- The forest has the pairs of the other and its configuration, and so many trees, or one for each
-- pair if there are fewer. Each tree has one part of the pairs.
pub record IsBalanced (old : ForestValue) (trees : ℕ) (new : ForestValue) : Type 0 where
  pub pairs : PairList
  pub parts : ℕ
  pub were : IsForestMap old.tables pairs
  pub are : IsForestMap new.tables pairs
  pub many : parts ≡ parts_for trees (length pairs)
  pub begin : BeginAtParts pairs parts new.bounds
  pub number : length new.tables ≡ parts
  pub each : (tree : ℕ) (table : TableValue) → slice_get new.tables tree ≡ Some table
      → IsTheMap table (part pairs parts tree)
  pub even : (tree : ℕ) → tree < parts
      → IsEvenShare (length pairs) parts (length (part pairs parts tree))
  pub config : config_of new.tables ≡ config_of old.tables

-- the first ones of these pairs take each page of a table
abbrev pub FillATable : Config → PairList → Type 0
FillATable config pairs =
    (first : PairList) × AreFirstOf first pairs × AreAllTaken config first

-- and so do those of some part
abbrev pub IsPartTooLarge : Config → PairList → ℕ → Type 0
IsPartTooLarge config pairs parts =
    (number : ℕ) × (number < parts) × FillATable config (part pairs parts number)

-- why the forest isn't made anew over so many trees: a part that is too large for a table is told
-- as such
abbrev pub IsPutFault : ForestValue → ℕ → Fault → Type 0
IsPutFault forest trees TableFull =
    (pairs : PairList) × IsForestMap forest.tables pairs
    × IsPartTooLarge (config_of forest.tables) pairs (parts_for trees (length pairs))
IsPutFault forest trees _ = Unit {0}

-- the first fault that applies
abbrev pub IsBalanceFault : ForestValue → ℕ → BalanceFault → Type 0
IsBalanceFault forest trees BadTrees = is_bad_number trees ≡ true
IsBalanceFault forest trees (Put fault) =
    (is_bad_number trees ≡ false) × IsPutFault forest trees fault
