-- What a scan of one tree, or of several in a row, adds to a list.
use Rattle.std.specs.Prelude.{◌≡◌, ℕ, ◌<◌, ◌≤◌, true, List, [], ◌∷◌, ◌++◌, Option, Result, Ok, Err, IsOk, length, take, drop}
use Rattle.bw_procedures.specs.declared.fault.Fault.{Fault}
use Rattle.bw_delta.specs.Entries.{rises}
use Rattle.bw_procedures.specs.Calls.{OnlySpends}
use Rattle.bw_procedures.specs.Clearing.{LieBelow, StartFrom}
use Rattle.bw_procedures.specs.Seen.{Seen}
use Rattle.nifforan_forest.specs.Reads.{Reads}

-- Pairs were added to the list, no more than the limit: those from the low on up to where the scan
-- came, which is the end unless a fault ended it or there were as many as the limit.
pub record Scans (there : ℕ → Option ℕ → Type 0) (low end limit : ℕ)
    (result : Result (Unit {0}) Fault) (old new : List (ℕ × ℕ)) : Type 0 where
  pub added : List (ℕ × ℕ)
  pub list : new ≡ old ++ added
  pub few : length added ≤ limit
  pub reached : ℕ
  pub from_low : low ≤ reached
  pub within : reached ≤ end
  pub reads : Reads there low reached added
  pub to_the_end : IsOk result → length added < limit → reached ≡ end

-- The first of a leaf's pairs from the key on were appended, as far as they lie below the high: no
-- more than the limit, and all of them where they are fewer.
pub record AppendsFirst (shows : ℕ → ℕ → List (ℕ × ℕ) → Type 0) (key high limit end : ℕ)
    (old new : List (ℕ × ℕ)) : Type 0 where
  pub pairs : List (ℕ × ℕ)
  pub shown : shows key end pairs
  pub rise : rises key end pairs ≡ true
  pub above : key < end
  pub count : ℕ
  pub within_limit : count ≤ limit
  pub few : count ≤ length pairs
  pub below : LieBelow high (take count pairs)
  pub all : count < limit → StartFrom high (drop count pairs)
  pub appended : new ≡ old ++ take count pairs

-- each hand's account has no receipt more, and no count
abbrev pub EachSpends : {H : Type 0} → (H → Seen) → (H → H → Type 0) → List H → List H → Type 0
EachSpends seen follows [] [] = Unit {0}
EachSpends seen follows (old ∷ olds) (new ∷ news) =
    follows old new × OnlySpends (seen old) (seen new) × EachSpends seen follows olds news
EachSpends seen follows olds news = ⊥

-- the same answer without the count
abbrev pub uncounted : Result ℕ Fault → Result (Unit {0}) Fault
uncounted (Ok count) = Ok tt
uncounted (Err fault) = Err fault
