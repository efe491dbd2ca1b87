-- The leaves that are held while a range is read from both ends.
use Rattle.std.specs.Prelude.{◌≡◌, ℕ, ◌+◌, ◌<◌, ◌≤◌, nat_lt, nat_le, if◌then◌else◌, true, List, Option, Some, None}
use Rattle.bw_keys.specs.Ranges.{key_count, end_of}
use Rattle.bw_delta.specs.Slices.{list_of}
use Rattle.bw_delta.specs.Entries.{from, below}
use Rattle.bw_chain.specs.Passing.Heads.{BeginsWith, EndsWith}
use Rattle.bw_step.specs.Stages.{is_in_row}
use Rattle.bw_law.specs.Tables.{TableValue, Lawful, slot_at}
use Rattle.bw_table.specs.Orders.{LeafValue, ArePairsWithin, leaf_at}
use Rattle.nifforan.specs.declared.back.Back.{Back}

-- the leaf is one of the table's, and none of its keys is needed that lies before it
pub record IsLeafFor (table : TableValue) (leaf : LeafValue) (next : ℕ) : Type 0 where
  pub lawful : Lawful table
  pub in_row : is_in_row (slot_at table leaf.pid.0).stage ≡ true
  pub is_leaf : (slot_at table leaf.pid.0).level ≡ 0
  pub lent : leaf ≡ leaf_at table leaf.pid
  pub pairs : ArePairsWithin table leaf.low (end_of leaf.high) leaf.pairs
  pub begins : leaf.low ≤ next

-- the pairs are the leaf's first ones from the key on; past all keys they may be any
abbrev pub AreLent : LeafValue → ℕ → List (ℕ × ℕ) → Type 0
AreLent leaf next lent = next < key_count → BeginsWith (from next leaf.pairs) lent

-- the pair, if its key lies below the end
abbrev pub below_end : ℕ → Option (ℕ × ℕ) → Option (ℕ × ℕ)
below_end end None = None
below_end end (Some pair) = if nat_lt pair.0 end then Some pair else None

-- where the keys begin after the pair; past all keys where there is none
abbrev pub end_past : Option (ℕ × ℕ) → ℕ
end_past None = key_count
end_past (Some pair) = pair.0 + 1

-- the leaf is one of the table's, and none of its keys is needed that lies after it
pub record IsLeafUnder (table : TableValue) (leaf : LeafValue) (end : ℕ) : Type 0 where
  pub pairs : ArePairsWithin table leaf.low (end_of leaf.high) leaf.pairs
  pub ends : end ≤ end_of leaf.high

-- the pairs are the leaf's last ones below the end; before all keys they may be any
abbrev pub AreLentUnder : LeafValue → ℕ → List (ℕ × ℕ) → Type 0
AreLentUnder leaf end lent = 0 < end → EndsWith (below end leaf.pairs) lent

-- a leaf is held from the back, for the keys below the end, and has lent its last pairs
abbrev pub HoldsUnder : {A : Type 0} → TableValue → ℕ → Back A → Type 0
HoldsUnder table end back =
    IsLeafUnder table back.leaf end × AreLentUnder back.leaf end (list_of back.lent)

-- the pair, if its key lies at the start or past it
abbrev pub from_start : ℕ → Option (ℕ × ℕ) → Option (ℕ × ℕ)
from_start start None = None
from_start start (Some pair) = if nat_le start pair.0 then Some pair else None

-- where the keys end before the pair; before all keys where there is none
abbrev pub end_before : Option (ℕ × ℕ) → ℕ
end_before None = 0
end_before (Some pair) = pair.0
