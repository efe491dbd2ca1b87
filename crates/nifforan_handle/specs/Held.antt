-- What nifforan's words say of a handle, by what it holds.
use Rattle.std.specs.Prelude.{◌≡◌, ℕ, ◌-◌, Bool, true, false, [], Option, Some, None, if◌then◌else◌}
use Rattle.std.specs.Arc.{arc_value}
use Rattle.bw_keys.specs.Ranges.{key_count}
use Rattle.bw_keys.specs.declared.config.Config.{Config}
use Rattle.bw_law.specs.Tables.{new_table}
use Rattle.nifforan.specs.Maps.{MapValue, PairList, within}
use Rattle.nifforan_handle.specs.declared.held.Held.{Held}
use Rattle.nifforan_handle.specs.declared.held.Held.TheVariants.{Closed, Own, Frozen}
use Rattle.nifforan_handle.specs.declared.high.High.{High}

-- the map, if one is held
abbrev pub map_in : Held → Option MapValue
map_in Closed = None
map_in (Own map) = Some map
map_in (Frozen shared) = Some (arc_value shared)

abbrev pub pairs_of_map : Option MapValue → PairList
pairs_of_map None = []
pairs_of_map (Some map) = map.pairs

abbrev pub config_of_map : Option MapValue → Option Config
config_of_map None = None
config_of_map (Some map) = Some map.config

abbrev pages_of_map : Option MapValue → ℕ
pages_of_map None = 0
pages_of_map (Some map) = map.pages

abbrev free_of_map : Option MapValue → ℕ
free_of_map None = 0
free_of_map (Some map) = map.free

-- the pairs of the map; where none is held, there are none
abbrev pub pairs_in : Held → PairList
pairs_in held = pairs_of_map (map_in held)

-- how many pages the map has memory for; where none is held, there are none
abbrev pub pages_in : Held → ℕ
pages_in held = pages_of_map (map_in held)

-- how many pages more the map has room for; where none is held, there are none
abbrev pub free_in : Held → ℕ
free_in held = free_of_map (map_in held)

-- the configuration of the map, if one is held
abbrev pub config_in : Held → Option Config
config_in held = config_of_map (map_in held)

abbrev is_frozen : Held → Bool
is_frozen Closed = false
is_frozen (Own map) = false
is_frozen (Frozen shared) = true

-- the map is one that no call changes
abbrev pub IsFrozen : Held → Type 0
IsFrozen held = is_frozen held ≡ true

abbrev pub is_own : Held → Bool
is_own Closed = false
is_own (Own map) = true
is_own (Frozen shared) = false

-- the map is the handle's own
abbrev pub IsOwn : Held → Type 0
IsOwn held = is_own held ≡ true

-- where a range ends: its keys lie below this
abbrev pub end_at : High → ℕ
end_at high = if high.is_top then key_count else high.key

-- the pairs with keys from the low on and below the high
abbrev pub pairs_between : ℕ → High → Held → PairList
pairs_between low high held = within low (end_at high) (pairs_in held)

-- a new map, which begins with memory for eight pages
abbrev pub empty_map : Config → MapValue
empty_map config = record {
  config = config;
  pairs = [];
  pages = 8;
  free = config.pages - 1;
  table = new_table (record config { pages = 8 });
}
