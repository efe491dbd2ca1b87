-- Maps that are made of pairs.
use Rattle.std.specs.Prelude.{◌≡◌, ℕ, Option, None, [], ◌++◌}
use Rattle.std.specs.Iterator.{Drains, Yields}
use Rattle.bw_keys.specs.declared.config.Config.{Config}
use Rattle.bw_law.specs.Tables.{TableValue, Lawful, Booked}
use Rattle.bw_procedures.specs.declared.fault.Fault.TheVariants.{TableFull}
use Rattle.nifforan.specs.Calls.{set_all}
use Rattle.nifforan.specs.Maps.{PairList, MapValue, pairs_of}
use Rattle.nifforan.specs.Settings.{first_bad_setting, IsMapFault}
use Rattle.nifforan.specs.declared.fill.FillFault.{FillFault}
use Rattle.nifforan.specs.declared.fill.FillFault.TheVariants as faults

-- the list has all items of the iterator, set in their order
abbrev pub IsMadeOf : {U T : Type 0} → (U → T → Type 0) → (T → Option (ℕ × ℕ) → T → Type 0) → U
    → PairList → Type 0
IsMadeOf {U} {T} becomes steps pairs made =
    (it : T) × (items : PairList) × becomes pairs it × Drains steps it items
    × (made ≡ set_all items [])

-- no map could be made by the configuration, or it was made, and a pair wasn't set
abbrev pub IsFillFault : Config → FillFault → Type 0
IsFillFault config (faults.New fault) = IsMapFault config fault
IsFillFault config (faults.Set _) = first_bad_setting config ≡ None

-- there is a table of the configuration with these pairs, which has all its pages, and none is free
pub record AreAllTaken (made : Config) (pairs : PairList) : Type 0 where
  pub table : TableValue
  pub lawful : Lawful table
  pub booked : Booked table
  pub config : table.config ≡ made
  pub none_free : table.free ≡ []
  pub has : pairs_of table.slots ≡ pairs

-- the pairs are the first ones of all
abbrev pub AreFirstOf : PairList → PairList → Type 0
AreFirstOf pairs all = (left : PairList) × (all ≡ pairs ++ left)

-- a fault that the table is full comes where the first items, set in their order, have taken each
-- page that there may be
abbrev pub IsFullOf : {U T : Type 0} → (U → T → Type 0) → (T → Option (ℕ × ℕ) → T → Type 0)
    → Config → U → FillFault → Type 0
IsFullOf {U} {T} becomes steps config pairs (faults.Set TableFull) =
    (it : T) × (items : PairList) × (rest : T) × becomes pairs it × Yields steps it items rest
    × AreAllTaken config (set_all items [])
IsFullOf {U} {T} becomes steps config pairs _ = Unit {0}

-- such a fault comes of a copy where the first pairs of the map have taken each page
abbrev pub IsFullCopy : MapValue → FillFault → Type 0
IsFullCopy map (faults.Set TableFull) =
    (first : PairList) × AreFirstOf first map.pairs × AreAllTaken map.config first
IsFullCopy map _ = Unit {0}
