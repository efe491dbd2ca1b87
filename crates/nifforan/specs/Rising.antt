-- Maps that are made of pairs whose keys rise.
use Rattle.std.specs.Prelude.{◌≡◌, ℕ, nat_lt, Bool, true, false, Option, None, Some, [], ◌∷◌, ◌++◌, length, Result, Ok, Err}
use Rattle.std.specs.Iterator.{Drains, Yields}
use Rattle.bw_keys.specs.declared.config.Config.{Config}
use Rattle.bw_keys.specs.Ranges.{key_count}
use Rattle.bw_delta.specs.Entries.{rises}
use Rattle.bw_law.specs.Tables.{TableValue}
use Rattle.bw_procedures.specs.declared.fault.Fault.{Fault}
use Rattle.bw_procedures.specs.declared.fault.Fault.TheVariants.{TableFull}
use Rattle.bw_table.specs.Appends.{AppendsInTurn}
use Rattle.nifforan.specs.Filling.{AreAllTaken, AreFirstOf}
use Rattle.nifforan.specs.Maps.{PairList, MapValue}
use Rattle.nifforan.specs.Settings.{first_bad_setting, IsMapFault}
use Rattle.nifforan.specs.declared.sorted.SortedFault.{SortedFault}
use Rattle.nifforan.specs.declared.sorted.SortedFault.TheVariants as faults

-- the key is above the one before, if there is one
abbrev pub is_above : ℕ → Option ℕ → Bool
is_above key None = true
is_above key (Some before) = nat_lt before key

-- the list has all items of the iterator, in their order, and their keys rise
pub record HasAllOf {U T : Type 0}
    (becomes : U → T → Type 0) (steps : T → Option (ℕ × ℕ) → T → Type 0)
    (pairs : U) (made : PairList) : Type 0 where
  pub start : T
  pub begins : becomes pairs start
  pub drains : Drains steps start made
  pub rise : rises 0 key_count made ≡ true

-- the keys of that many items of the iterator rise, and with the next item they don't
pub record StopsRising {U T : Type 0}
    (becomes : U → T → Type 0) (steps : T → Option (ℕ × ℕ) → T → Type 0)
    (pairs : U) (count : ℕ) : Type 0 where
  pub start : T
  pub begins : becomes pairs start
  pub rising : PairList
  pub next : ℕ × ℕ
  pub rest : T
  pub yields : Yields steps start (rising ++ next ∷ []) rest
  pub rise : rises 0 key_count rising ≡ true
  pub not_with_next : rises 0 key_count (rising ++ next ∷ []) ≡ false
  pub many : count ≡ length rising

-- the keys of the first items of the iterator rise
pub record StartsRising {U T : Type 0}
    (becomes : U → T → Type 0) (steps : T → Option (ℕ × ℕ) → T → Type 0)
    (pairs : U) : Type 0 where
  pub start : T
  pub begins : becomes pairs start
  pub rising : PairList
  pub rest : T
  pub yields : Yields steps start rising rest
  pub rise : rises 0 key_count rising ≡ true

-- no map could be made by the configuration; or it was made, and a pair wasn't above
-- the one before, or was and wasn't put
abbrev pub IsSortedFault : {U T : Type 0} → (U → T → Type 0) → (T → Option (ℕ × ℕ) → T → Type 0)
    → Config → U → SortedFault → Type 0
IsSortedFault becomes steps config pairs (faults.New fault) = IsMapFault config fault
IsSortedFault becomes steps config pairs (faults.Unsorted number) =
    (first_bad_setting config ≡ None) × StopsRising becomes steps pairs number
IsSortedFault becomes steps config pairs (faults.Put _) =
    (first_bad_setting config ≡ None) × StartsRising becomes steps pairs

-- a map without pairs got all of them; or one wasn't above the one before, or wasn't put
abbrev pub AppendsAll : {U T : Type 0} → (U → T → Type 0) → (T → Option (ℕ × ℕ) → T → Type 0)
    → U → Result (Unit {0}) SortedFault → PairList → Type 0
AppendsAll becomes steps pairs (Ok done) new = HasAllOf becomes steps pairs new
AppendsAll becomes steps pairs (Err (faults.Unsorted number)) new =
    StopsRising becomes steps pairs number
AppendsAll becomes steps pairs (Err (faults.Put fault)) new = StartsRising becomes steps pairs
AppendsAll becomes steps pairs (Err (faults.New fault)) new = ⊥

-- the fault of the pair after these, whose key isn't above theirs: they were put, or one wasn't
abbrev pub IsUnsortedBehind : PairList → SortedFault → Type 0
IsUnsortedBehind pairs (faults.New _) = ⊥
IsUnsortedBehind pairs (faults.Unsorted number) = number ≡ length pairs
IsUnsortedBehind pairs (faults.Put _) = Unit {0}

-- the map has the first ones of all pairs, and where the fault is a full table, no room for a page
abbrev pub IsCutShort : PairList → MapValue → Fault → Type 0
IsCutShort all map fault = AreFirstOf map.pairs all × (fault ≡ TableFull → map.free ≡ 0)

-- the same of the fault of the pair after these
abbrev pub CutsBehind : PairList → MapValue → SortedFault → Type 0
CutsBehind pairs map (faults.Put fault) = IsCutShort pairs map fault
CutsBehind pairs map _ = Unit {0}

-- the first of some items of the iterator fill what this says of them
pub record FillsWith {U T : Type 0}
    (becomes : U → T → Type 0) (steps : T → Option (ℕ × ℕ) → T → Type 0)
    (pairs : U) (Full : PairList → Type 0) : Type 0 where
  pub start : T
  pub begins : becomes pairs start
  pub items : PairList
  pub rest : T
  pub yields : Yields steps start items rest
  pub filled : Full items

-- a fault that the table is full comes where the first items have taken each page of the map
abbrev pub CutsAll : {U T : Type 0} → (U → T → Type 0) → (T → Option (ℕ × ℕ) → T → Type 0)
    → U → MapValue → SortedFault → Type 0
CutsAll becomes steps pairs map (faults.Put TableFull) =
    FillsWith becomes steps pairs (λ items. AreFirstOf map.pairs items × (map.free ≡ 0))
CutsAll becomes steps pairs map _ = Unit {0}

-- the same, once the map is gone
abbrev pub IsFullOfRising : {U T : Type 0} → (U → T → Type 0)
    → (T → Option (ℕ × ℕ) → T → Type 0) → Config → U → SortedFault → Type 0
IsFullOfRising becomes steps config pairs (faults.Put TableFull) =
    FillsWith becomes steps pairs (λ items.
    (first : PairList) × AreFirstOf first items × AreAllTaken config first)
IsFullOfRising becomes steps config pairs _ = Unit {0}

-- the pairs were put on some page in turn
pub record IsAppended (old : TableValue) (pairs : PairList) (new : TableValue) : Type 0 where
  pub page : ℕ
  pub appends : AppendsInTurn old page pairs new
