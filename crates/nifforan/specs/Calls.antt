-- What a put, a set, a delete and the removal of a range do to the pairs of a map.
use Rattle.std.specs.Prelude.{◌≡◌, ◌≢◌, ℕ, ◌+◌, [], ◌∷◌, ◌++◌, Option, Some, None, length, Result, MatchResult}
use Rattle.std.specs.Iterator.{Yields, Drains}
use Rattle.bw_delta.specs.Entries.{at, put, without}
use Rattle.nifforan.specs.declared.change.CompareAndSet.{CompareAndSet}
use Rattle.nifforan.specs.declared.change.CompareAndSet.TheVariants.{Set, Differs}
use Rattle.nifforan.specs.declared.change.Upsert.{Upsert}
use Rattle.nifforan.specs.Maps.{PairList, outside}

abbrev pub if_absent : Option ℕ → PairList → PairList → PairList
if_absent None new old = new
if_absent (Some there) new old = old

-- the pairs with this one, unless its key is there
abbrev pub put_if_absent : ℕ → ℕ → PairList → PairList
put_if_absent key value pairs = if_absent (at key pairs) (put key value pairs) pairs

-- the key had this before, and then it has the value, unless it had one
abbrev pub Puts : ℕ → ℕ → Option ℕ → PairList → PairList → Type 0
Puts key value had old new = (had ≡ at key old) × (new ≡ put_if_absent key value old)

-- the key had this before, and then it has the value
abbrev pub Sets : ℕ → ℕ → Option ℕ → PairList → PairList → Type 0
Sets key value had old new = (had ≡ at key old) × (new ≡ put key value old)

-- the key had this before, and then it is gone
abbrev pub Deletes : ℕ → Option ℕ → PairList → PairList → Type 0
Deletes key had old new = (had ≡ at key old) × (new ≡ without key old)

-- the pair was the first one and is gone, or there was none
abbrev pub PopsFirst : Option (ℕ × ℕ) → PairList → PairList → Type 0
PopsFirst None old new = (old ≡ []) × (new ≡ [])
PopsFirst (Some pair) old new = old ≡ pair ∷ new

-- the pair was the last one and is gone, or there was none
abbrev pub PopsLast : Option (ℕ × ℕ) → PairList → PairList → Type 0
PopsLast None old new = (old ≡ []) × (new ≡ [])
PopsLast (Some pair) old new = old ≡ new ++ pair ∷ []

-- the key of the pair is gone, if there is a pair
abbrev pub TakesOut : Option (ℕ × ℕ) → Option (ℕ × ℕ) → PairList → PairList → Type 0
TakesOut None reply old new = (reply ≡ None) × (new ≡ old)
TakesOut (Some pair) reply old new = (reply ≡ Some pair) × (new ≡ without pair.0 old)

-- the pairs with the key at this value, or without it
abbrev pub with_value : ℕ → Option ℕ → PairList → PairList
with_value key None pairs = without key pairs
with_value key (Some value) pairs = put key value pairs

-- the key had what was expected and has the new value, or none; or
-- it had another, or none, and keeps that
abbrev pub ComparesAndSets : ℕ → Option ℕ → Option ℕ → CompareAndSet → PairList → PairList → Type 0
ComparesAndSets key expected value Set old new =
    (at key old ≡ expected) × (new ≡ with_value key value old)
ComparesAndSets key expected value (Differs had) old new =
    (had ≡ at key old) × (had ≢ expected) × (new ≡ old)

-- the key had the reply's old value, and then it has the new one, which the function made of that
pub record Upserts (makes : Option ℕ → ℕ → Type 0) (key : ℕ) (reply : Upsert)
    (old new : PairList) : Type 0 where
  pub had : reply.old ≡ at key old
  pub made : makes reply.old reply.new
  pub has : new ≡ put key reply.new old

-- the pairs one after the other, each put at its key
abbrev pub set_all : PairList → PairList → PairList
set_all [] old = old
set_all (pair ∷ pairs) old = set_all pairs (put pair.0 pair.1 old)

-- items that the iterator yields were set, in their order: all of them, or, with a
-- fault in the reply's place, the first ones
abbrev pub SetsEach : {T R E : Type 0} → (T → Option (ℕ × ℕ) → T → Type 0) → T → Result R E
    → PairList → PairList → Type 0
SetsEach {T} steps it result old new =
    (items : PairList) × (new ≡ set_all items old)
    × MatchResult result (λ _. Drains steps it items) (λ _. (t : T) × Yields steps it items t)

-- the same of what is made an iterator
abbrev pub SetsAll : {U T R E : Type 0} → (U → T → Type 0) → (T → Option (ℕ × ℕ) → T → Type 0) → U
    → Result R E → PairList → PairList → Type 0
SetsAll {U} {T} becomes steps pairs result old new =
    (it : T) × becomes pairs it × SetsEach steps it result old new

-- n keys from the low on and below the end were removed: all of them, unless the call ended before
pub record Clears (low end n : ℕ) (Whole : Type 0) (old new : PairList) : Type 0 where
  pub cleared : Whole → new ≡ outside low end old
  -- no other key is gone, and no pair is new
  pub others : outside low end new ≡ outside low end old
  pub fewer : (key value : ℕ) → at key new ≡ Some value → at key old ≡ Some value
  pub count : length new + n ≡ length old
