-- Maps that no call changes: how a map becomes one, is shared, and becomes a handle's own again.
use Rattle.std.specs.Prelude.{◌≡◌, ◌≢◌, ◌↔◌, ◌⊎◌, ℕ, None}
use Rattle.nifforan_handle.specs.Held.{map_in, IsFrozen, IsOwn}
use Rattle.nifforan_handle.specs.declared.held.Held.{Held}
use Rattle.nifforan_handle.specs.declared.status.TheConstants.{CLOSED, FROZEN, NO_MEMORY, NOT_FROZEN, OK, OPEN, SHARED}

-- the map is frozen, and stays the same map
pub record Freezes (status : ℕ) (old new : Held) : Type 0 where
  pub closed : (map_in old ≡ None) ↔ (status ≡ CLOSED)
  pub already : IsFrozen old ↔ (status ≡ FROZEN)
  pub memory : IsOwn old → status ≢ OK → status ≡ NO_MEMORY
  pub frozen : status ≡ OK → IsFrozen new
  pub map : map_in new ≡ map_in old
  pub unchanged : status ≢ OK → new ≡ old

-- the frozen map becomes the handle's own, unless others have it too
pub record Thaws (status : ℕ) (old new : Held) : Type 0 where
  pub closed : (map_in old ≡ None) ↔ (status ≡ CLOSED)
  pub already : IsOwn old ↔ (status ≡ NOT_FROZEN)
  pub shared : IsFrozen old → status ≢ OK → status ≡ SHARED
  pub own : status ≡ OK → IsOwn new
  pub map : map_in new ≡ map_in old
  pub unchanged : status ≢ OK → new ≡ old

-- both are frozen, and have the same map
pub record IsShareOf (held another : Held) : Type 0 where
  pub frozen : IsFrozen held
  pub shared : IsFrozen another
  pub map : map_in another ≡ map_in held

-- there is no share: nothing is held, or the map isn't frozen, or memory is short
pub record WhyNotShared (held : Held) (status : ℕ) : Type 0 where
  pub closed : (map_in held ≡ None) ↔ (status ≡ CLOSED)
  pub own : IsOwn held ↔ (status ≡ NOT_FROZEN)
  pub memory : IsFrozen held → status ≡ NO_MEMORY

-- the other handle, which was closed, has the same frozen map
pub record Shares (status : ℕ) (old new other_old other_new : Held) : Type 0 where
  pub taken : (map_in other_old ≢ None) ↔ (status ≡ OPEN)
  pub closed : map_in other_old ≡ None → (map_in old ≡ None) ↔ (status ≡ CLOSED)
  pub own : map_in other_old ≡ None → IsOwn old ↔ (status ≡ NOT_FROZEN)
  pub memory : map_in other_old ≡ None → IsFrozen old → status ≢ OK → status ≡ NO_MEMORY
  pub shares : status ≡ OK → IsShareOf old other_new
  pub kept : new ≡ old
  pub unchanged : status ≢ OK → other_new ≡ other_old
