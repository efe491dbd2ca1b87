-- What the calls on a handle do to what it holds.
use Rattle.std.specs.Prelude.{◌≡◌, ◌≢◌, ◌↔◌, ◌⊎◌, ℕ, ◌+◌, ◌*◌, ◌≤◌, false, List, Option, None, IfSome, length, take, drop, min}
use Rattle.bw_delta.specs.Entries.{at}
use Rattle.bw_keys.specs.Rooms.{half}
use Rattle.nifforan.specs.Calls.{Clears, set_all, with_value}
use Rattle.nifforan.specs.Growing.{HasAllPages, HasPagesFor, MayBeTooMany}
use Rattle.nifforan.specs.Maps.{PairList}
use Rattle.nifforan.specs.Settings.{first_bad_setting}
use Rattle.nifforan_handle.specs.declared.answer.Cleared.{Cleared}
use Rattle.nifforan_handle.specs.declared.filled.Filled.{Filled}
use Rattle.nifforan_handle.specs.declared.answer.Found.{Found}
use Rattle.nifforan_handle.specs.declared.answer.Pair.{Pair}
use Rattle.nifforan_handle.specs.declared.popped.Popped.{Popped}
use Rattle.nifforan_handle.specs.declared.answer.Read.{Read}
use Rattle.nifforan_handle.specs.declared.answer.Reply.{Reply}
use Rattle.nifforan_handle.specs.declared.held.Held.{Held}
use Rattle.nifforan_handle.specs.declared.held.Held.TheVariants.{Own}
use Rattle.nifforan_handle.specs.declared.settings.Settings.{Settings}
use Rattle.nifforan_handle.specs.declared.settings.TheConstants.{SETTINGS_SIZE}
use Rattle.nifforan_handle.specs.declared.status.TheConstants.{BAD_SIZE, CLOSED, FROZEN, NO_MEMORY, OK, OPEN, TABLE_FULL}
use Rattle.nifforan_handle.specs.Answers.{had, next_key, pair_of, pair_popped, IsCare, IsZeroWithout, IsZeroAtEnd, IsZeroWithoutPair, IsZeroWithoutPopped}
use Rattle.nifforan_handle.specs.Held.{map_in, pairs_in, pages_in, free_in, config_in, empty_map, is_own, IsOwn, IsFrozen}
use Rattle.nifforan_handle.specs.Reading.{are_pairs, first_key}
use Rattle.nifforan_handle.specs.Statuses.{config_of, status_of_field, IsStatus, TellsFault}

-- a map without pairs is opened at a closed handle, unless the settings' size is another than they have here, or a field is out of its range, or memory is short
pub record Creates (settings : Settings) (status : ℕ) (old new : Held) : Type 0 where
  pub already : (map_in old ≢ None) ↔ (status ≡ OPEN)
  pub size : map_in old ≡ None → (settings.size ≢ SETTINGS_SIZE) ↔ (status ≡ BAD_SIZE)
  pub setting : map_in old ≡ None → settings.size ≡ SETTINGS_SIZE → IfSome (first_bad_setting (config_of settings)) (λ field. status ≡ status_of_field field)
  pub memory : map_in old ≡ None → settings.size ≡ SETTINGS_SIZE → first_bad_setting (config_of settings) ≡ None → status ≢ OK → status ≡ NO_MEMORY
  pub opened : status ≡ OK → new ≡ Own (empty_map (config_of settings))
  pub unchanged : status ≢ OK → new ≡ old

-- a put, a set or a delete, by what it does to the pairs, and the value that the key had
pub record Writes (Does : Option ℕ → PairList → PairList → Type 0) (it : Reply) (old new : Held) : Type 0 where
  pub closed : (map_in old ≡ None) ↔ (it.status ≡ CLOSED)
  pub frozen : IsFrozen old ↔ (it.status ≡ FROZEN)
  -- the reply has the value that the key had
  pub reply : it.status ≡ OK → Does (had it) (pairs_in old) (pairs_in new)
  pub status : IsStatus it.status
  pub nothing : it.status ≢ OK → had it ≡ None
  pub zero : IsZeroWithout it
  pub care : IsCare it
  -- no page is free: only a map that has as many as it may have says so
  pub full : it.status ≡ TABLE_FULL → IfSome (map_in new) HasAllPages
  pub full_care : it.care ≡ TABLE_FULL → IfSome (map_in new) HasAllPages
  pub unchanged : it.status ≢ OK → pairs_in new ≡ pairs_in old
  pub config : config_in new ≡ config_in old
  -- a map of the handle's own stays its own, and anything else stays as it was
  pub own : IsOwn old → IsOwn new
  pub others : is_own old ≡ false → new ≡ old

-- the key had this before: if that was what was expected, it has the new value then, or none, and
-- otherwise it keeps what it had
pub record SetsIfExpected (key : ℕ) (expected value had : Option ℕ) (old new : PairList)
    : Type 0 where
  pub before : had ≡ at key old
  pub set : had ≡ expected → new ≡ with_value key value old
  pub kept : had ≢ expected → new ≡ old

-- what the status and the care of a call say that may change a map
pub record Reports (status care : ℕ) (old new : Held) : Type 0 where
  pub closed : (map_in old ≡ None) ↔ (status ≡ CLOSED)
  pub frozen : IsFrozen old ↔ (status ≡ FROZEN)
  pub told : IsStatus status
  pub beside : status ≢ OK → care ≡ OK
  pub cared : care ≢ OK → TellsFault care
  pub full : status ≡ TABLE_FULL → IfSome (map_in new) HasAllPages
  pub full_care : care ≡ TABLE_FULL → IfSome (map_in new) HasAllPages
  pub config : config_in new ≡ config_in old
  pub own : IsOwn old → IsOwn new
  pub others : is_own old ≡ false → new ≡ old

-- a pair is taken out, by which one it is
pub record Pops (Does : Option (ℕ × ℕ) → PairList → PairList → Type 0) (it : Popped)
    (old new : Held) : Type 0 where
  pub reports : Reports it.status it.care old new
  pub pops : it.status ≡ OK → Does (pair_popped it) (pairs_in old) (pairs_in new)
  pub nothing : it.status ≢ OK → pair_popped it ≡ None
  pub zero : IsZeroWithoutPopped it
  pub unchanged : it.status ≢ OK → pairs_in new ≡ pairs_in old

-- the first of the pairs are set, one after the other, and the answer has their number: all of
-- them, unless the call ended before
pub record Extends (pairs : PairList) (it : Filled) (old new : Held) : Type 0 where
  pub reports : Reports it.status it.care old new
  pub sets : pairs_in new ≡ set_all (take it.count pairs) (pairs_in old)
  pub few : it.count ≤ length pairs
  pub all : it.status ≡ OK → it.count ≡ length pairs

-- the removal of the keys from the low on and below the end
pub record ClearsHeld (low end : ℕ) (it : Cleared) (old new : Held) : Type 0 where
  pub closed : (map_in old ≡ None) ↔ (it.status ≡ CLOSED)
  pub frozen : IsFrozen old ↔ (it.status ≡ FROZEN)
  pub status : IsStatus it.status
  pub clears : Clears low end it.removed (it.status ≡ OK) (pairs_in old) (pairs_in new)
  pub full : it.status ≡ TABLE_FULL → IfSome (map_in new) HasAllPages
  pub config : config_in new ≡ config_in old

-- the map has pages enough for that many pairs more, unless it may have too few
pub record Reserves (more status : ℕ) (old new : Held) : Type 0 where
  pub closed : (map_in old ≡ None) ↔ (status ≡ CLOSED)
  pub frozen : IsFrozen old ↔ (status ≡ FROZEN)
  pub memory : IsOwn old → status ≢ OK → (status ≡ NO_MEMORY) ⊎ (status ≡ TABLE_FULL)
  pub full : status ≡ TABLE_FULL → IfSome (map_in old)
      (MayBeTooMany (length (pairs_in old) + more))
  pub many : IsOwn old → IfSome (map_in old)
      (λ map. half * map.config.pages ≤ length map.pairs + more → status ≡ TABLE_FULL)
  pub room : status ≡ OK → IfSome (map_in new) (HasPagesFor (length (pairs_in old) + more))
  pub pairs : pairs_in new ≡ pairs_in old
  pub config : config_in new ≡ config_in old
  pub free : free_in new ≡ free_in old
  pub own : IsOwn old → IsOwn new
  pub unchanged : status ≢ OK → new ≡ old

-- the map is made anew, and has no more pages than it had
pub record Shrinks (status : ℕ) (old new : Held) : Type 0 where
  pub closed : (map_in old ≡ None) ↔ (status ≡ CLOSED)
  pub frozen : IsFrozen old ↔ (status ≡ FROZEN)
  pub reported : IsStatus status
  pub pairs : pairs_in new ≡ pairs_in old
  pub config : config_in new ≡ config_in old
  pub pages : pages_in new ≤ pages_in old
  pub own : IsOwn old → IsOwn new
  pub unchanged : status ≢ OK → new ≡ old

-- the pair that is asked for, if there is one
pub record Finds (wanted : Option (ℕ × ℕ)) (it : Found) (held : Held) : Type 0 where
  pub closed : (map_in held ≡ None) ↔ (it.status ≡ CLOSED)
  pub reads : (map_in held ≢ None) ↔ (it.status ≡ OK)
  pub pair : pair_of it ≡ wanted
  pub zero : IsZeroWithoutPair it

-- the first of the pairs are in the first of the places, and the answer has their number and the key of the next one
pub record ReadsInto (pairs : PairList) (it : Read) (old new : List Pair) : Type 0 where
  pub count : it.count ≡ min (length old) (length pairs)
  pub read : are_pairs (take it.count new) ≡ take it.count pairs
  pub rest : drop it.count new ≡ drop it.count old
  pub next : next_key it ≡ first_key (drop it.count pairs)
  pub zero : IsZeroAtEnd it
