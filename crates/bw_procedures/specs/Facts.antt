-- What stays as it was seen while nobody else takes steps, and what a copy of a page shows.
use Rattle.std.specs.Prelude.{◌≡◌, ℕ, ◌<◌, ◌≤◌, List, true, Option, Some, None, Result, Ok, Err}
use Rattle.bw_keys.specs.declared.page.Pid.{Pid}
use Rattle.bw_keys.specs.declared.page.Version.{Version}
use Rattle.bw_keys.specs.Ranges.{end_of}
use Rattle.bw_delta.specs.declared.fault.NoMemory.{NoMemory}
use Rattle.bw_delta.specs.Pages.{Page}
use Rattle.bw_delta.specs.Records.{Records, bare}
use Rattle.bw_delta.specs.Fence.{fences, is_leaf}
use Rattle.bw_delta.specs.Pairs.{pairs}
use Rattle.bw_step.specs.declared.place.Go.{Go}
use Rattle.bw_step.specs.declared.place.Go.TheVariants.{Gone, Right, Down, Here}
use Rattle.bw_step.specs.declared.place.Place.{Place}
use Rattle.bw_step.specs.declared.view.Look.{Look}
use Rattle.bw_step.specs.declared.view.View.{View}
use Rattle.bw_step.specs.declared.fault.CopyFault.{CopyFault}
use Rattle.bw_step.specs.declared.fault.CopyFault.TheVariants as copy_faults

-- nobody else takes steps; the place is on the way to the key, down to the goal's level; the page is in the row of the level, with a range that
-- holds the key; the page still has the version
pub data Fact : Type 0 where
  quiet : Fact
  on_the_way : (key goal : ℕ) → Place → Fact
  holds : (key level : ℕ) → Pid → Fact
  fresh : Pid → Version → Fact

-- a search isn't lost: its next place is on the way, and the page that it finds is the key's, and fresh
abbrev pub CalmNext : (Fact → Type 0) → ℕ → ℕ → Go → Type 0
CalmNext calm key goal Gone = ⊥
CalmNext calm key goal (Right next) = calm (on_the_way key goal next)
CalmNext calm key goal (Down next) = calm (on_the_way key goal next)
CalmNext calm key goal (Here view) = calm (holds key goal view.pid) × calm (fresh view.pid view.version)

-- a page that is in a row is found, with the version that it has
abbrev pub CalmPeek : (Fact → Type 0) → Pid → Option View → Type 0
CalmPeek calm pid None = (key level : ℕ) → calm (holds key level pid) → ⊥
CalmPeek calm pid (Some view) = calm quiet → calm (fresh pid view.version)

-- memory apart, the look is answered
abbrev pub IsLooked : Result (Option Look) NoMemory → Type 0
IsLooked (Ok None) = ⊥
IsLooked (Ok (Some look)) = Unit {0}
IsLooked (Err no_memory) = Unit {0}

-- a look at the key's leaf is answered
abbrev pub CalmLook : (Fact → Type 0) → ℕ → Pid → Result (Option Look) NoMemory → Type 0
CalmLook calm key pid result = calm (holds key 0 pid) → IsLooked result

-- the chain is a leaf's, and its range holds the key
pub record IsLeafAround (key : ℕ) (chain : Records) : Type 0 where
  pub leaf : is_leaf chain ≡ true
  pub from_low : (fences chain).low ≤ key
  pub below_high : key < end_of (fences chain).high

-- memory apart, the page is copied
abbrev pub IsCopied : ℕ → Result Records CopyFault → Type 0
IsCopied key (Ok chain) = IsLeafAround key chain
IsCopied key (Err fault) = fault ≡ copy_faults.NoMemory

-- the key's leaf is copied, if it is fresh
abbrev pub CalmCopy : (Fact → Type 0) → Pid → Version → Result Records CopyFault → Type 0
CalmCopy calm pid version result = (key : ℕ) → calm (holds key 0 pid) → calm (fresh pid version) → IsCopied key result

-- memory apart, the page is made anew
abbrev pub IsMadeAnew : ℕ → Result Page CopyFault → Type 0
IsMadeAnew key (Ok page) = IsLeafAround key (bare page)
IsMadeAnew key (Err fault) = fault ≡ copy_faults.NoMemory

-- the key's leaf is made anew, if it is fresh
abbrev pub CalmAnew : (Fact → Type 0) → Pid → Version → Result Page CopyFault → Type 0
CalmAnew calm pid version result = (key : ℕ) → calm (holds key 0 pid) → calm (fresh pid version) → IsMadeAnew key result

-- a copy of a leaf shows all pairs of its range
abbrev pub ShowsCopy : (ℕ → ℕ → List (ℕ × ℕ) → Type 0) → Records → Type 0
ShowsCopy shows chain = is_leaf chain ≡ true → shows (fences chain).low (end_of (fences chain).high) (pairs chain)
