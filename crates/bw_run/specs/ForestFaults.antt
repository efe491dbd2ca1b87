-- When a run on a forest may begin, and which fault says what.
use Rattle.std.specs.Prelude.{◌≡◌, ℕ, ◌<◌, ◌≤◌, true, false, All, List, [], length, slice_get, slice_index_or, Some}
use Rattle.bw_keys.specs.declared.config.Config.{Config}
use Rattle.bw_step.specs.declared.receipt.Receipt.{Receipt}
use Rattle.bw_law.specs.Tables.{TableValue}
use Rattle.bw_table.specs.Views.{ArePairsOf}
use Rattle.bw_tree.specs.Trees.{MayBeMade}
use Rattle.bw_audit.specs.Verdicts.{verdict_of}
use Rattle.bw_audit.specs.declared.verdict.Verdict.TheVariants.{No}
use Rattle.bw_forest.specs.Bounds.{is_bad_number}
use Rattle.bw_texts.specs.declared.trace.row.Row.{Row}
use Rattle.nifforan_forest.specs.declared.fault.ShareForestFault.{ShareForestFault}
use Rattle.nifforan_forest.specs.declared.fault.ShareForestFault.TheVariants as share
use Rattle.bw_run.specs.declared.fault.RunFault.{RunFault}
use Rattle.bw_run.specs.declared.fault.RunFault.TheVariants.{Config as BadConfig, Workers, Readers, Trees, NoReader, Threads, Memory, Stopped, Audit, TreeAudit, OtherRange}
use Rattle.bw_run.specs.Faults.{IsCrewFault}
use Rattle.bw_run.specs.ForestRuns.{IsLegalAt}
use Rattle.bw_run.specs.Rows.{IsRowOf}

-- the configuration and the numbers of workers and of trees are good
abbrev pub MayRunForest : Config → ℕ → ℕ → Type 0
MayRunForest config workers trees = MayBeMade config workers × (is_bad_number trees ≡ false)

-- the trails and the pairs of the table are no legal history, and this is what the verdict says
pub record IsBadAt (table : TableValue) (trails : List (List Receipt)) (worker receipt : ℕ)
    : Type 0 where
  pub pairs : List (ℕ × ℕ)
  pub of_table : ArePairsOf table pairs
  pub verdict : verdict_of trails pairs ≡ No worker receipt

-- each tree before this one has a legal history, and this one has a bad one
pub record IsFirstBadTree (tables : List TableValue) (trails : List (List (List Receipt)))
    (tree worker receipt : ℕ) : Type 0 where
  pub within : tree < length trails
  pub before : (earlier : ℕ) → earlier < tree → (table : TableValue)
      → slice_get tables earlier ≡ Some table → IsLegalAt table (slice_index_or trails earlier [])
  pub table : TableValue
  pub there : slice_get tables tree ≡ Some table
  pub bad : IsBadAt table (slice_index_or trails tree []) worker receipt

-- n workers' trails at each of so many trees or fewer, and this is the first bad one
pub record IsBadForest (workers trees tree worker receipt : ℕ) : Type 0 where
  pub tables : List TableValue
  pub trails : List (List (List Receipt))
  pub few : length trails ≤ trees
  pub each : All (λ its. length its ≡ workers) trails
  pub first : IsFirstBadTree tables trails tree worker receipt

-- what the crew's faults are; bad trees where the crew is good; and all else in a run that may
-- begin; there are no readers
abbrev pub IsForestRunFault : Config → ℕ → ℕ → List Row → RunFault → Type 0
IsForestRunFault config workers trees rows (BadConfig bad) =
    IsCrewFault config workers (BadConfig bad)
IsForestRunFault config workers trees rows Workers = IsCrewFault config workers Workers
IsForestRunFault config workers trees rows Trees =
    MayBeMade config workers × (is_bad_number trees ≡ true)
IsForestRunFault config workers trees rows Readers = ⊥
IsForestRunFault config workers trees rows NoReader = ⊥
IsForestRunFault config workers trees rows Threads = MayRunForest config workers trees
IsForestRunFault config workers trees rows Memory = MayRunForest config workers trees
IsForestRunFault config workers trees rows OtherRange = MayRunForest config workers trees
IsForestRunFault config workers trees rows (Stopped worker number fault) =
    MayRunForest config workers trees × (worker < workers) × IsRowOf rows worker number
IsForestRunFault config workers trees rows (Audit worker receipt) = ⊥
IsForestRunFault config workers trees rows (TreeAudit tree worker receipt) =
    MayRunForest config workers trees × IsBadForest workers trees tree worker receipt

-- the verdict on the trails of the tree with this number, or memory was wanting
abbrev pub IsTreeVerdictOn : ℕ → TableValue → List (List Receipt) → RunFault → Type 0
IsTreeVerdictOn number table trails Memory = Unit {0}
IsTreeVerdictOn number table trails (TreeAudit tree worker receipt) =
    (tree ≡ number) × IsBadAt table trails worker receipt
IsTreeVerdictOn number table trails _ = ⊥

-- the first tree with a bad history is named, or memory was wanting
abbrev pub NamesFirstBad : List TableValue → List (List (List Receipt)) → RunFault → Type 0
NamesFirstBad tables trails Memory = Unit {0}
NamesFirstBad tables trails (TreeAudit tree worker receipt) =
    IsFirstBadTree tables trails tree worker receipt
NamesFirstBad tables trails _ = ⊥

-- one of n workers stopped at a row of its own, or the first tree with a bad history is named, or a
-- thread or memory was wanting
abbrev pub EndsForest : ℕ → List Row → List TableValue → List (List (List Receipt)) → RunFault
    → Type 0
EndsForest workers rows tables trails Threads = Unit {0}
EndsForest workers rows tables trails Memory = Unit {0}
EndsForest workers rows tables trails (Stopped worker number fault) =
    (worker < workers) × IsRowOf rows worker number
EndsForest workers rows tables trails (TreeAudit tree worker receipt) =
    IsFirstBadTree tables trails tree worker receipt
EndsForest workers rows tables trails _ = ⊥

-- what a fault of the sharing is to the run
abbrev pub run_fault_of_share : ShareForestFault → RunFault
run_fault_of_share (share.BadConfig bad) = BadConfig bad
run_fault_of_share share.BadWorkers = Workers
run_fault_of_share share.NoMemory = Memory
run_fault_of_share share.NoMemoryForWorkers = Memory
run_fault_of_share share.NoThread = Threads
run_fault_of_share share.OtherRange = OtherRange
