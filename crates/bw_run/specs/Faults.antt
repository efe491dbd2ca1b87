-- When a run may begin, and which fault says what.
use Rattle.std.specs.Prelude.{◌≡◌, ℕ, ◌<◌, ◌≤◌, min, Bool, true, List, length, None, Some}
use Rattle.bw_keys.specs.declared.config.Config.{Config}
use Rattle.bw_keys.specs.Limits.{first_bad_field}
use Rattle.bw_step.specs.declared.receipt.Receipt.{Receipt}
use Rattle.bw_audit.specs.Verdicts.{verdict_of}
use Rattle.bw_audit.specs.declared.verdict.Verdict.TheVariants.{No}
use Rattle.bw_tree.specs.Trees.{MayBeMade, is_bad_number}
use Rattle.bw_run.specs.declared.fault.RunFault.{RunFault}
use Rattle.bw_run.specs.declared.fault.RunFault.TheVariants.{Config as BadConfig, Workers, Readers, Trees, NoReader, Threads, Memory, Stopped, Audit, TreeAudit, OtherRange}
use Rattle.bw_crew.specs.declared.fault.CrewFault.{CrewFault}
use Rattle.bw_crew.specs.declared.fault.CrewFault.TheVariants.{NoMemory, NoThread}
use Rattle.bw_texts.specs.declared.trace.row.Row.{Row}
use Rattle.bw_run.specs.Rows.{IsRowOf}

-- the most readers of n workers
abbrev pub most_readers : ℕ → ℕ
most_readers workers = min workers 16

-- the configuration and the numbers of workers and of readers are good
abbrev pub MayRun : Config → ℕ → ℕ → Type 0
MayRun config workers readers = MayBeMade config workers × (readers ≤ most_readers workers)

-- n trails were audited, with some pairs, and this is what the verdict says
pub record IsBadHistory (workers worker receipt : ℕ) : Type 0 where
  pub trails : List (List Receipt)
  pub pairs : List (ℕ × ℕ)
  pub count : length trails ≡ workers
  pub verdict : verdict_of trails pairs ≡ No worker receipt

-- the first bad field, or bad workers where there is none
abbrev pub IsCrewFault : Config → ℕ → RunFault → Type 0
IsCrewFault config workers (BadConfig bad) = first_bad_field config ≡ Some bad.0
IsCrewFault config workers Workers =
    (first_bad_field config ≡ None) × (is_bad_number workers ≡ true)
IsCrewFault config workers _ = ⊥

-- what the crew's faults are; bad readers where the crew is good; and all else in a run that may
-- begin, a reader that isn't there, or reads nothing, only where there are readers; there is one
-- tree, of all keys
abbrev pub IsRunFault : Config → ℕ → ℕ → List Row → RunFault → Type 0
IsRunFault config workers readers rows (BadConfig bad) = IsCrewFault config workers (BadConfig bad)
IsRunFault config workers readers rows Workers = IsCrewFault config workers Workers
IsRunFault config workers readers rows Readers = MayBeMade config workers × (most_readers workers < readers)
IsRunFault config workers readers rows Trees = ⊥
IsRunFault config workers readers rows OtherRange = ⊥
IsRunFault config workers readers rows (TreeAudit tree worker receipt) = ⊥
IsRunFault config workers readers rows NoReader = MayRun config workers readers × (0 < readers)
IsRunFault config workers readers rows Threads = MayRun config workers readers
IsRunFault config workers readers rows Memory = MayRun config workers readers
IsRunFault config workers readers rows (Stopped worker number fault) = MayRun config workers readers × (worker < workers) × IsRowOf rows worker number
IsRunFault config workers readers rows (Audit worker receipt) = MayRun config workers readers × IsBadHistory workers worker receipt

-- one of n workers stopped at a row of its own, or found nothing to read where a reader may; or a thread or memory was wanting
abbrev pub StopsWithin : Bool → ℕ → List Row → RunFault → Type 0
StopsWithin may_close workers rows NoReader = may_close ≡ true
StopsWithin may_close workers rows Threads = Unit {0}
StopsWithin may_close workers rows Memory = Unit {0}
StopsWithin may_close workers rows (Stopped worker number fault) = (worker < workers) × IsRowOf rows worker number
StopsWithin may_close workers rows _ = ⊥

-- the history of n workers was found bad, or memory was wanting
abbrev pub EndsBadly : ℕ → RunFault → Type 0
EndsBadly workers Memory = Unit {0}
EndsBadly workers (Audit worker receipt) = IsBadHistory workers worker receipt
EndsBadly workers _ = ⊥

-- the verdict on the history, or memory was wanting
abbrev pub IsVerdictOn : List (List Receipt) → List (ℕ × ℕ) → RunFault → Type 0
IsVerdictOn trails pairs Memory = Unit {0}
IsVerdictOn trails pairs (Audit worker receipt) = verdict_of trails pairs ≡ No worker receipt
IsVerdictOn trails pairs _ = ⊥

-- what a fault of the crew is to the run
abbrev pub run_fault_of : CrewFault → RunFault
run_fault_of NoMemory = Memory
run_fault_of NoThread = Threads
