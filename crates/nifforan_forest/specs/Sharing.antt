-- What a forest comes to that workers shared, and which fault says what.
use Rattle.std.specs.Prelude.{◌≡◌, ℕ, ◌+◌, ◌++◌, List, All, length, map, MatchResult}
use Rattle.bw_keys.specs.declared.config.Config.{Config}
use Rattle.bw_step.specs.declared.receipt.Receipt.{Receipt}
use Rattle.bw_forest.specs.Forests.{ComesApart, ForestValue, IsClosedForest, books_of, config_of, pairs_of}
use Rattle.bw_crew.specs.declared.fault.CrewFault.{CrewFault}
use Rattle.bw_crew.specs.declared.fault.CrewFault.TheVariants as crew
use Rattle.bw_crew.specs.Workers.{changes_in, share_by}
use Rattle.bw_tree.specs.Trees.{IsNewFault, MayBeMade}
use Rattle.bw_tree.specs.declared.fault.NewFault.TheVariants as new
use Rattle.nifforan_forest.specs.declared.fault.ShareForestFault.{ShareForestFault}
use Rattle.nifforan_forest.specs.declared.unshared.UnsharedForest.{UnsharedForest}
use Rattle.nifforan_forest.specs.declared.fault.ShareForestFault.TheVariants.{BadConfig, BadWorkers, NoMemory, NoMemoryForWorkers, NoThread, OtherRange}
use Rattle.nifforan_forest.specs.declared.outcome.ForestOutcome.{ForestOutcome}
use Rattle.nifforan_forest.specs.Workers.{AllReturn, PromisedOf, trails_of}

-- What a forest comes to that workers shared: a closed one, of the same ranges, which has as many
-- pairs as all trails have insertions, less their removals; and of each worker an output and a
-- trail at each tree, of which the promise holds. A trail has the receipts that were added to it,
-- whether or not they were kept.
pub record IsForestShared {O L : Type 0} (added : L → List Receipt) (promise : PromisedOf O)
    (bounds : List ℕ) (config : Config) (workers : ℕ) (outcome : ForestOutcome O L) : Type 0 where
  pub ranges : outcome.forest.bounds ≡ bounds
  pub closed : IsClosedForest config (map share_by (trails_of added outcome.workers.items))
      outcome.forest
  pub returned : length outcome.workers.items ≡ workers
  pub trails : All (λ it. length it.trails.items ≡ length bounds) outcome.workers.items
  pub promised : AllReturn added promise bounds outcome.workers.items

-- What a closed forest comes to that workers shared: one of the same ranges, made by the same
-- configuration, whose books have what the given trees' had and what all trails tell. So its pairs
-- are those that were there and as many as the trails have insertions, less their removals. And of
-- each worker an output and a trail at each tree, of which the promise holds.
pub record IsClosedForestShared {O L : Type 0} (added : L → List Receipt) (promise : PromisedOf O)
    (given : ForestValue) (workers : ℕ) (outcome : ForestOutcome O L) : Type 0 where
  pub ranges : outcome.forest.bounds ≡ given.bounds
  pub closed : IsClosedForest (config_of given.tables)
      (books_of given.tables ++ map share_by (trails_of added outcome.workers.items))
      outcome.forest
  pub pairs : let changes = changes_in (trails_of added outcome.workers.items) in
      pairs_of outcome.forest.tables + changes.removed ≡ pairs_of given.tables + changes.inserted
  pub returned : length outcome.workers.items ≡ workers
  pub trails : All (λ it. length it.trails.items ≡ length given.bounds) outcome.workers.items
  pub promised : AllReturn added promise given.bounds outcome.workers.items

-- the first fault that applies
abbrev pub IsShareForestFault : Config → ℕ → ShareForestFault → Type 0
IsShareForestFault config workers (BadConfig bad) = IsNewFault config workers (new.BadConfig bad)
IsShareForestFault config workers BadWorkers = IsNewFault config workers new.BadWorkers
IsShareForestFault config workers NoMemory = MayBeMade config workers
IsShareForestFault config workers NoMemoryForWorkers = MayBeMade config workers
IsShareForestFault config workers NoThread = MayBeMade config workers
IsShareForestFault config workers OtherRange = MayBeMade config workers

-- a fault that comes once the trees are under their locks, so that workers may have started
abbrev pub IsLate : ShareForestFault → Type 0
IsLate (BadConfig bad) = ⊥
IsLate BadWorkers = ⊥
IsLate NoMemory = ⊥
IsLate NoMemoryForWorkers = Unit {0}
IsLate NoThread = Unit {0}
IsLate OtherRange = Unit {0}

-- a forest that wasn't shared comes back with these ranges and this configuration; its trees come
-- apart if one of them has another range
abbrev pub ComesBack : List ℕ → Config → UnsharedForest → Type 0
ComesBack bounds config unshared =
    MatchResult unshared.forest
    (λ forest. (forest.bounds ≡ bounds) × (config_of forest.tables ≡ config))
    (λ apart. (unshared.fault ≡ OtherRange)
    × ComesApart bounds config apart.bounds apart.trees.items)

-- so does a closed forest that wasn't shared, and before any worker started it is as it was
pub record IsForestBack (given : ForestValue) (unshared : UnsharedForest) : Type 0 where
  pub back : ComesBack given.bounds (config_of given.tables) unshared
  pub same : (IsLate unshared.fault → ⊥)
      → MatchResult unshared.forest (λ forest. forest ≡ given) (λ apart. ⊥)

-- what a fault of the crew is to the forest that it was to share
abbrev pub share_fault_of : CrewFault → ShareForestFault
share_fault_of crew.NoMemory = NoMemoryForWorkers
share_fault_of crew.NoThread = NoThread
