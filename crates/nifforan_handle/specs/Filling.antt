-- Maps that are made of C's array of pairs.
use Rattle.std.specs.Prelude.{◌≡◌, ◌≢◌, ◌↔◌, ℕ, ◌+◌, true, false, Some, None, IfSome, length, take}
use Rattle.bw_delta.specs.Entries.{rises}
use Rattle.bw_keys.specs.Ranges.{key_count}
use Rattle.bw_keys.specs.declared.config.Config.{Config}
use Rattle.nifforan.specs.Maps.{PairList}
use Rattle.nifforan.specs.Settings.{first_bad_setting, IsMapFault}
use Rattle.nifforan.specs.declared.sorted.SortedFault.{SortedFault}
use Rattle.nifforan.specs.declared.sorted.SortedFault.TheVariants as faults
use Rattle.nifforan_handle.specs.declared.filled.Filled.{Filled}
use Rattle.nifforan_handle.specs.declared.held.Held.{Held}
use Rattle.nifforan_handle.specs.declared.settings.Settings.{Settings}
use Rattle.nifforan_handle.specs.declared.settings.TheConstants.{SETTINGS_SIZE}
use Rattle.nifforan_handle.specs.declared.status.TheConstants.{BAD_SIZE, OK, OPEN, UNSORTED}
use Rattle.nifforan_handle.specs.Held.{map_in, pairs_in, config_in, IsOwn}
use Rattle.nifforan_handle.specs.Statuses.{config_of, status_of_field, TellsFault}

-- the keys rise
abbrev pub AreSorted : PairList → Type 0
AreSorted pairs = rises 0 key_count pairs ≡ true

-- the keys of that many pairs rise, and with the next pair they don't
pub record StopRisingAt (count : ℕ) (pairs : PairList) : Type 0 where
  pub rise : AreSorted (take count pairs)
  pub not_with_next : rises 0 key_count (take (count + 1) pairs) ≡ false

-- why no map is made of the pairs
abbrev pub WhyNotSorted : Config → PairList → SortedFault → Type 0
WhyNotSorted config pairs (faults.New fault) = IsMapFault config fault
WhyNotSorted config pairs (faults.Unsorted number) =
    (first_bad_setting config ≡ None) × StopRisingAt number pairs
WhyNotSorted config pairs (faults.Put _) = first_bad_setting config ≡ None

-- a map with these pairs is opened at a closed handle, unless the settings don't allow it, a key
-- isn't above the one before, or a fault comes
pub record OpensSorted (settings : Settings) (pairs : PairList) (it : Filled) (old new : Held)
    : Type 0 where
  pub already : (map_in old ≢ None) ↔ (it.status ≡ OPEN)
  pub size : map_in old ≡ None → (settings.size ≢ SETTINGS_SIZE) ↔ (it.status ≡ BAD_SIZE)
  pub setting : map_in old ≡ None → settings.size ≡ SETTINGS_SIZE
      → IfSome (first_bad_setting (config_of settings)) (λ field. it.status ≡ status_of_field field)
  pub unsorted : it.status ≡ UNSORTED → StopRisingAt it.count pairs
  pub sorted : it.status ≡ OK → AreSorted pairs
  pub reported : map_in old ≡ None → settings.size ≡ SETTINGS_SIZE
      → first_bad_setting (config_of settings) ≡ None
      → it.status ≢ OK → it.status ≢ UNSORTED → TellsFault it.status
  pub care : it.care ≡ OK
  pub own : it.status ≡ OK → IsOwn new
  pub opened : it.status ≡ OK → pairs_in new ≡ pairs
  pub config : it.status ≡ OK → config_in new ≡ Some (config_of settings)
  pub count : it.status ≡ OK → it.count ≡ length pairs
  pub unchanged : it.status ≢ OK → new ≡ old
