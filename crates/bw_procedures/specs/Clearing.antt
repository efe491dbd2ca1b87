-- The removal of the keys of a range: a list of single deletes.
use Rattle.std.specs.Prelude.{◌≡◌, ◌⊎◌, ℕ, ◌+◌, ◌<◌, ◌≤◌, List, [], ◌∷◌, ◌++◌, Option, Some, None}
use Rattle.bw_delta.specs.Entries.{at}
use Rattle.bw_step.specs.Tellings.{Reported, changed, looked, reported_in}
use Rattle.bw_procedures.specs.declared.fault.Fault.{Fault}
use Rattle.bw_procedures.specs.Seen.{Seen}

-- what the receipt of a delete reports, whatever it replied: the key was deleted, or had no value
abbrev pub IsRemovalOf : ℕ → Reported → Type 0
IsRemovalOf key (changed k (Some value) None) = k ≡ key
IsRemovalOf key (looked k None) = k ≡ key
IsRemovalOf key reported = ⊥

-- deletes of strictly rising keys, from the low on and below the high
abbrev pub AreRemovals : ℕ → ℕ → List Reported → Type 0
AreRemovals low high [] = Unit {0}
AreRemovals low high (reported ∷ rest) = (key : ℕ) × IsRemovalOf key reported × (low ≤ key) × (key < high) × AreRemovals (key + 1) high rest

-- one where a key was deleted
abbrev pub removal_in : Reported → ℕ
removal_in (changed key (Some value) None) = 1
removal_in reported = 0

-- how many of the deletes had a key to delete
abbrev pub removals_in : List Reported → ℕ
removals_in [] = 0
removals_in (reported ∷ rest) = removal_in reported + removals_in rest

-- what was added reports deletes in the range, `removed` of which had a key to delete
pub record AddsRemovals (low high removed : ℕ) (old new : Seen) : Type 0 where
  pub added : List Reported
  pub trail : reported_in new.trail ≡ reported_in old.trail ++ added
  pub removals : AreRemovals low high added
  pub count : removals_in added ≡ removed

abbrev pub HasRemovalOf : ℕ → List Reported → Type 0
HasRemovalOf key [] = ⊥
HasRemovalOf key (reported ∷ rest) = IsRemovalOf key reported ⊎ HasRemovalOf key rest

-- Between the two states there was one in which these were all pairs of a range that holds the key, and the key wasn't among them, or its
-- removal is reported since.
pub record IsSwept {S : Type 0} (seen : S → Seen) (follows : S → S → Type 0) (shows : S → ℕ → ℕ → List (ℕ × ℕ) → Type 0) (key : ℕ) (old new : S) : Type 0 where
  pub between : S
  pub before : follows old between
  pub after : follows between new
  pub low : ℕ
  pub end : ℕ
  pub pairs : List (ℕ × ℕ)
  pub shown : shows between low end pairs
  pub from_low : low ≤ key
  pub below_end : key < end
  pub added : List Reported
  pub since : reported_in (seen new).trail ≡ reported_in (seen between).trail ++ added
  pub gone : (at key pairs ≡ None) ⊎ HasRemovalOf key added

-- of each of the pairs the removal of its key is reported
abbrev pub AreRemovalsOf : List (ℕ × ℕ) → List Reported → Type 0
AreRemovalsOf [] [] = Unit {0}
AreRemovalsOf (pair ∷ pairs) (reported ∷ rest) = IsRemovalOf pair.0 reported × AreRemovalsOf pairs rest
AreRemovalsOf pairs tellings = ⊥

-- the keys of the pairs lie below the end
abbrev pub LieBelow : ℕ → List (ℕ × ℕ) → Type 0
LieBelow end [] = Unit {0}
LieBelow end (pair ∷ pairs) = (pair.0 < end) × LieBelow end pairs

-- the first pair, if there is one, doesn't lie below the end
abbrev pub StartFrom : ℕ → List (ℕ × ℕ) → Type 0
StartFrom end [] = Unit {0}
StartFrom end (pair ∷ pairs) = end ≤ pair.0

-- what was added are the removals of the first of the pairs, which lie below the end; `removed` of them had a key to delete
pub record RemovesFirst (end : ℕ) (pairs done left : List (ℕ × ℕ)) (removed : ℕ) (old new : Seen) : Type 0 where
  pub parts : pairs ≡ done ++ left
  pub below_end : LieBelow end done
  pub added : List Reported
  pub trail : reported_in new.trail ≡ reported_in old.trail ++ added
  pub removals : AreRemovalsOf done added
  pub count : removals_in added ≡ removed

-- pairs were deleted from the first on: without a fault, all that lie below the end
abbrev pub RemovesBelow : ℕ → List (ℕ × ℕ) → ℕ → Option Fault → Seen → Seen → Type 0
RemovesBelow end pairs removed fault old new =
    (done left : List (ℕ × ℕ)) × RemovesFirst end pairs done left removed old new × (fault ≡ None → StartFrom end left)

-- the delete of one key was reported, and whether it had a key to delete
pub record RemovesOne (key removed : ℕ) (old new : Seen) : Type 0 where
  pub reported : Reported
  pub trail : reported_in new.trail ≡ reported_in old.trail ++ reported ∷ []
  pub removal : IsRemovalOf key reported
  pub count : removal_in reported ≡ removed

-- one key was deleted, or nothing was done, by a fault
abbrev pub RemovesKey : ℕ → ℕ → Option Fault → Seen → Seen → Type 0
RemovesKey key removed fault old new =
    RemovesOne key removed old new
    ⊎ ((reported_in new.trail ≡ reported_in old.trail) × (removed ≡ 0) × (fault ≡ None → ⊥))
