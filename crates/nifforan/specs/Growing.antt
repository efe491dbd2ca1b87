-- How a map comes by its pages, and what a call tells of that.
use Rattle.std.specs.Prelude.{◌≡◌, ℕ, ◌+◌, ◌-◌, ◌*◌, ◌<◌, ◌≤◌, List, length, sum, Option, Some, Result, Ok, Err}
use Rattle.bw_keys.specs.Rooms.{half, AreLevels, HasRoomFor}
use Rattle.bw_procedures.specs.declared.fault.Fault.{Fault}
use Rattle.bw_procedures.specs.declared.reply.Done.{Done}
use Rattle.nifforan.specs.Maps.{MapValue}

-- the map may have got more pages, and is otherwise as it was
pub record HasGrown (old new : MapValue) : Type 0 where
  pub config : new.config ≡ old.config
  pub pairs : new.pairs ≡ old.pairs
  pub free : new.free ≡ old.free
  pub pages : old.pages ≤ new.pages

-- the map has as many pages as it may have; it never has more
abbrev pub HasAllPages : MapValue → Type 0
HasAllPages map = map.config.pages ≤ map.pages

-- the map has pages enough for each tree with that number of pairs in which all leaves
-- but one have half of their pairs
abbrev pub HasPagesFor : ℕ → MapValue → Type 0
HasPagesFor pairs map = HasRoomFor pairs (record map.config { pages = map.pages })

-- so many pages are on the levels above one with so many, where all pages of a level but one have
-- half of their entries, with a free page for each level and for a new root
abbrev pub AreWantedAbove : ℕ → ℕ → Type 0
AreWantedAbove below pages =
    (above : List ℕ) × AreLevels below above × (pages ≡ sum above + (length above + 2))

-- so many pages make a tree of at most so many pairs where all pages of a level but one have half
-- of their entries, and leave a page free for each level and for a new root
abbrev pub AreWantedFor : ℕ → ℕ → Type 0
AreWantedFor pairs pages =
    (leaves : ℕ) × (above : ℕ) × (half * (leaves - 1) ≤ pairs) × AreWantedAbove leaves above
    × (pages ≡ leaves + above)

-- the pairs may want more pages than there may be
abbrev pub MayBeTooMany : ℕ → MapValue → Type 0
MayBeTooMany pairs map = (pages : ℕ) × AreWantedFor pairs pages × (map.config.pages < pages)

-- the fault that a call tells, in the place of its reply or beside it
abbrev pub fault_reported : {T : Type 0} → Result (Done T) Fault → Option Fault
fault_reported (Ok done) = done.fault
fault_reported (Err fault) = Some fault

-- both are replies, and the same one, or neither is one
abbrev pub SameReply : {T : Type 0} → Result (Done T) Fault → Result (Done T) Fault → Type 0
SameReply (Ok one) (Ok other) = other.reply ≡ one.reply
SameReply (Ok one) (Err fault) = ⊥
SameReply (Err fault) (Ok other) = ⊥
SameReply (Err fault) (Err reported) = Unit {0}
