-- What holds of a chain's entries of either kind: the laws of `EntryValue`.
use Rattle.std.specs.Prelude.{◌≡◌, ℕ, List, true}
use Rattle.bw_keys.specs.Ranges.{end_of}
use Rattle.bw_delta.specs.declared.chain.Delta.{Delta}
use Rattle.bw_delta.specs.Entries.{rises}
use Rattle.bw_delta.specs.Fence.{fences}
use Rattle.bw_delta.specs.Pages.{Listed}
use Rattle.bw_delta.specs.Records.{Records, above}
use Rattle.bw_delta.specs.Sound.{IsWellBuilt}
use Rattle.bw_chain.specs.Changes.{entries_by}
use Rattle.bw_chain.specs.Passing.Cuts.{IsUncut}
use Rattle.bw_chain.specs.declared.entries.change.Change.{Change}

-- the entries of a chain rise inside its range
abbrev pub RiseInRange : {X : Type 0} → (Listed → List (ℕ × X)) → (Delta → Change X) → Type 0
RiseInRange own change = (chain : Records) → IsWellBuilt chain → rises (fences chain).low (end_of (fences chain).high) (entries_by own change chain) ≡ true

-- a chain's range ends where its newest record cuts the entries off
abbrev pub AreCutAtHigh : {X : Type 0} → (Delta → Change X) → Type 0
AreCutAtHigh change = (delta : Delta) (chain : Records) → IsUncut (end_of (fences (above delta chain)).high) (change delta)
