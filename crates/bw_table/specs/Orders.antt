-- The map in the order of its keys, and a leaf that is lent for reading in this order.
use Rattle.std.specs.Prelude.{◌≡◌, ◌↔◌, ℕ, ◌+◌, ◌-◌, ◌<◌, ◌≤◌, true, List, Some, refl, length, take}
use Rattle.std.specs.Coded.{Coded, code_by, coded×, coded_ℕ, coded_list}
use Rattle.bw_keys.specs.declared.range.Fence.{Fence}
use Rattle.bw_keys.specs.declared.page.Pid.{Pid}
use Rattle.bw_keys.specs.contracts.range.Fence as fence
use Rattle.bw_keys.specs.contracts.page.Pid as pid
use Rattle.bw_keys.specs.Ranges.{key_count, end_of}
use Rattle.bw_delta.specs.Entries.{at, below, from, rises}
use Rattle.bw_law.specs.Laws.{IsLeafOf, IsTheMap}
use Rattle.bw_law.specs.Slots.{pairs_in}
use Rattle.bw_law.specs.Tables.{TableValue, Maps, slot_at}

-- no key of the map lies from the low on and below the end
abbrev pub HasNoKeyWithin : TableValue → ℕ → ℕ → Type 0
HasNoKeyWithin table low end =
    (key value : ℕ) → low ≤ key → key < end → Maps table.slots key value → ⊥

-- the first pair of the map at the key or past it
pub record IsNextAt (table : TableValue) (key : ℕ) (pair : ℕ × ℕ) : Type 0 where
  pub at_or_past : key ≤ pair.0
  pub there : Maps table.slots pair.0 pair.1
  pub none_between : HasNoKeyWithin table key pair.0

-- the last pair of the map at the key or before it
pub record IsPreviousAt (table : TableValue) (key : ℕ) (pair : ℕ × ℕ) : Type 0 where
  pub at_or_before : pair.0 ≤ key
  pub there : Maps table.slots pair.0 pair.1
  pub none_between : HasNoKeyWithin table (pair.0 + 1) (key + 1)

abbrev pub last_key : ℕ
last_key = key_count - 1

-- just the pairs of the map from the low on and below the end, in the order of their keys
pub record ArePairsWithin (table : TableValue) (low end : ℕ) (pairs : List (ℕ × ℕ)) : Type 0 where
  pub rise : rises low end pairs ≡ true
  pub same : (key value : ℕ) → low ≤ key → key < end
      → (at key pairs ≡ Some value) ↔ Maps table.slots key value

-- the list that is the map has n pairs
abbrev pub HasPairs : TableValue → ℕ → Type 0
HasPairs table n = (pairs : List (ℕ × ℕ)) → IsTheMap table pairs → length pairs ≡ n

-- a leaf: its page, its range, and its pairs
pub record LeafValue : Type 0 where
  pub pid : Pid
  pub low : ℕ
  pub high : Fence
  pub pairs : List (ℕ × ℕ)

-- the page as a leaf
abbrev pub leaf_at : TableValue → Pid → LeafValue
leaf_at table page =
    let slot = slot_at table page.0 in
    record { pid = page; low = slot.low; high = slot.high; pairs = pairs_in slot }

-- the leaf is the one on the right of the page: it begins where the page ends, so it is where
-- the search for that key ends
pub record IsRightSibling (table : TableValue) (page : ℕ) (leaf : LeafValue) : Type 0 where
  pub found : IsLeafOf table (end_of (slot_at table page).high) leaf.pid.0
  pub lent : leaf ≡ leaf_at table leaf.pid
  pub begins : leaf.low ≡ end_of (slot_at table page).high
  pub pairs : ArePairsWithin table leaf.low (end_of leaf.high) leaf.pairs

-- the key's leaf ends here
abbrev pub IsEndOfLeaf : TableValue → ℕ → Fence → Type 0
IsEndOfLeaf table key end =
    (page : ℕ) × IsLeafOf table key page × ((slot_at table page).high ≡ end)

-- no record stands on the key's leaf, and a list of this capacity and length has room for its
-- pairs from the key on and below the high, or for as many as the limit
abbrev pub IsReadable : TableValue → ℕ → ℕ → ℕ → ℕ → ℕ → Type 0
IsReadable table key high limit capacity count =
    (page : ℕ) → IsLeafOf table key page
    → let slot = slot_at table page in
    (slot.depth ≡ 0)
    × (count + length (take limit (below high (from key (pairs_in slot)))) ≤ capacity)

abbrev pub leaf_code : Coded LeafValue
leaf_code =
    code_by (Pid × (ℕ × (Fence × List (ℕ × ℕ))))
    (coded× pid.the_row.coded
    (coded× coded_ℕ (coded× fence.the_row.coded (coded_list (coded× coded_ℕ coded_ℕ)))))
    (λ l. (l.pid, (l.low, (l.high, l.pairs))))
    (λ p. record { pid = p.0; low = p.1.0; high = p.1.1.0; pairs = p.1.1.1 })
    (λ _. refl)
