-- When a tree may be shared, what it comes to, and which fault says what.
use Rattle.std.specs.Prelude.{◌≡◌, ℕ, true, false, List, length, map, Some, None}
use Rattle.bw_keys.specs.declared.config.Config.{Config}
use Rattle.bw_keys.specs.Limits.{first_bad_field, is_out_of}
use Rattle.bw_step.specs.declared.receipt.Receipt.{Receipt}
use Rattle.bw_law.specs.Tables.{TableValue}
use Rattle.bw_tree.specs.declared.fault.Unshared.{Unshared}
use Rattle.bw_tree.specs.Shares.{shared_in, together}
use Rattle.bw_tree.specs.Trees.{IsTree, CountsPairs}
use Rattle.nifforan_shared.specs.declared.outcome.Outcome.{Outcome}
use Rattle.bw_crew.specs.declared.fault.CrewFault.{CrewFault}
use Rattle.bw_crew.specs.declared.fault.CrewFault.TheVariants as crew
use Rattle.nifforan_shared.specs.declared.fault.ShareFault.{ShareFault}
use Rattle.nifforan_shared.specs.declared.fault.ShareFault.TheVariants.{BadConfig, BadWorkers, NoMemory, NoThread}
use Rattle.bw_crew.specs.Workers.{Promised, AllAsPromised, changes_in}

-- What a tree comes to that workers shared: a lawful table, made by the configuration; an output and a trail of each worker, of which the
-- promise holds; and as many pairs as all trails have insertions, less their removals. A trail has the receipts that were added to it, whether or
-- not they were kept.
pub record IsShared {O L : Type 0} (added : L → List Receipt) (promise : Promised O) (made_by : Config) (workers : ℕ) (outcome : Outcome O L) : Type 0 where
  pub tree : IsTree outcome.table
  pub config : outcome.table.config ≡ made_by
  pub outputs : length outcome.outputs.items ≡ workers
  pub trails : length outcome.trails.items ≡ workers
  pub pairs : CountsPairs outcome.table (changes_in (map added outcome.trails.items))
  pub promised : AllAsPromised added promise outcome.outputs.items outcome.trails.items

-- What a table comes to that workers shared: a lawful one of the same configuration, whose book has what the given table's has and the insertions
-- and removals of all trails; and an output and a trail of each worker, of which the promise holds.
pub record IsTableShared {O L : Type 0} (added : L → List Receipt) (promise : Promised O) (given : TableValue) (workers : ℕ) (outcome : Outcome O L) : Type 0 where
  pub tree : IsTree outcome.table
  pub config : outcome.table.config ≡ given.config
  pub outputs : length outcome.outputs.items ≡ workers
  pub trails : length outcome.trails.items ≡ workers
  pub book : shared_in outcome.table.book ≡ together (shared_in given.book) (changes_in (map added outcome.trails.items))
  pub promised : AllAsPromised added promise outcome.outputs.items outcome.trails.items

-- A table that wasn't shared comes back: it is lawful, by the same configuration, and where the workers were too few or too many just as it was.
pub record IsBack {A : Type 0} (given : TableValue) (unshared : Unshared A ShareFault) : Type 0 where
  pub tree : IsTree unshared.table
  pub config : unshared.table.config ≡ given.config
  pub same : unshared.fault ≡ BadWorkers → unshared.table ≡ given

-- a tree may be made by the configuration, and shared by this number of workers, of at most this number
abbrev pub MayShare : ℕ → Config → ℕ → Type 0
MayShare most config workers = (first_bad_field config ≡ None) × (is_out_of 1 most workers ≡ false)

-- the first fault that applies
abbrev pub IsShareFault : ℕ → Config → ℕ → ShareFault → Type 0
IsShareFault most config workers (BadConfig bad) = first_bad_field config ≡ Some bad.0
IsShareFault most config workers BadWorkers = (first_bad_field config ≡ None) × (is_out_of 1 most workers ≡ true)
IsShareFault most config workers NoMemory = MayShare most config workers
IsShareFault most config workers NoThread = MayShare most config workers

-- what a fault of the crew is to the tree that it was to share
abbrev pub share_fault_of : CrewFault → ShareFault
share_fault_of crew.NoMemory = NoMemory
share_fault_of crew.NoThread = NoThread
