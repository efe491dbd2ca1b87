-- What the map has at a key, and the way to it from the root.
use Rattle.std.specs.Prelude.{◌≡◌, ◌↔◌, ℕ, ◌+◌, ◌-◌, ◌*◌, ◌^◌, ◌<◌, ◌≤◌, true, ◌==◌, nat_le, if◌then◌else◌, List, Option, Some, None, option_map, IfSome, IfNone, take}
use Rattle.bw_keys.specs.declared.page.Pid.{Pid}
use Rattle.bw_keys.specs.Ranges.{key_count, end_of}
use Rattle.bw_delta.specs.Entries.{from, below, rises, last_upto}
use Rattle.bw_step.specs.Stages.{is_in_row}
use Rattle.bw_law.specs.Laws.{IsLeafOf, IsTheMap}
use Rattle.bw_law.specs.Slots.{SlotValue}
use Rattle.bw_law.specs.Tables.{TableValue, slot_at, Maps}
use Rattle.bw_table.specs.Visits.{live_routes}

-- what was found at the key is the value that the map has there, or none where it has none
abbrev pub IsMapAt : TableValue → ℕ → Option ℕ → Type 0
IsMapAt table key found = (value : ℕ) → (found ≡ Some value) ↔ Maps table.slots key value

-- the first pairs of the map from the low on and below the end, in the order of
-- their keys, and no more than the limit
pub record IsListing (table : TableValue) (low end limit : ℕ) (listed : List (ℕ × ℕ)) : Type 0 where
  pub pairs : List (ℕ × ℕ)
  pub map : IsTheMap table pairs
  pub first : listed ≡ take limit (below end (from low pairs))

-- these pairs, and perhaps others at the end or past it, in the order of their keys
pub record HasListing (table : TableValue) (low end limit : ℕ)
    (listed : List (ℕ × ℕ)) : Type 0 where
  pub rise : rises 0 key_count listed ≡ true
  pub listing : IsListing table low end limit (below end listed)

-- a page in a row that begins at or below the key
pub record IsUpTo (table : TableValue) (key page : ℕ) : Type 0 where
  pub in_row : is_in_row (slot_at table page).stage ≡ true
  pub low_upto : (slot_at table page).low ≤ key

-- the page is the key's leaf
abbrev pub HasLeaf : TableValue → ℕ → Pid → Type 0
HasLeaf table key page = IsLeafOf table key page.0

abbrev pub page_of : ℕ × Pid → Pid
page_of route = route.1

-- the page by the greatest live route at or below the key
abbrev pub live_child : List SlotValue → SlotValue → ℕ → Option Pid
live_child slots slot key = option_map page_of (last_upto key (live_routes slots slot))

-- the next page of a search for the key: none after a leaf whose range holds it
abbrev pub next_page : List SlotValue → SlotValue → ℕ → Option Pid
next_page slots slot key =
    if nat_le (end_of slot.high) key then slot.right
    else (if slot.level == 0 then None else live_child slots slot key)

-- how far it may be to the leaf: levels first, and keys within a level
abbrev pub way_left : TableValue → ℕ → ℕ
way_left table page = (slot_at table page).level * 2 ^ 65 + (2 ^ 64 - (slot_at table page).low)

-- the next page is nearer to the leaf; where there is none, this one is the leaf
pub record LeadsOn (table : TableValue) (key page : ℕ) (next : Option Pid) : Type 0 where
  pub there : IfSome next (λ next. IsUpTo table key next.0)
  pub nearer : IfSome next (λ next. way_left table next.0 < way_left table page)
  pub leaf : IfNone next (IsLeafOf table key page)
