-- What the lock of a tree with readers keeps, and what its calls answer.
use Rattle.std.specs.Prelude.{◌≡◌, ℕ, Bool, true, false, List, [], Some, None}
use Rattle.bw_keys.specs.declared.config.Config.{Config}
use Rattle.bw_keys.specs.Limits.{first_bad_field, is_out_of}
use Rattle.bw_step.specs.Proposals.{Proposal}
use Rattle.bw_law.specs.Tables.{TableValue}
use Rattle.bw_tree.specs.Trees.{MayBeMade, is_bad_number}
use Rattle.bw_step.specs.declared.fault.Denied.TheVariants as denials
use Rattle.bw_table.specs.Actions.{IsWhyNot}
use Rattle.bw_step.specs.declared.action.Action.{Action}
use Rattle.bw_step.specs.declared.action.Unperformed.{Unperformed}
use Rattle.bw_step.specs.declared.action.Unperformed.TheVariants as undone
use Rattle.bw_snap.specs.Snapshots.{LeadTo, IsSnapshot}
use Rattle.bw_snap.specs.declared.fault.SnapFault.{SnapFault}
use Rattle.bw_snap.specs.declared.fault.SnapFault.TheVariants.{BadConfig, BadWorkers, BadReaders, NoMemory, NoReader}

-- the table, the published one, the steps between, and the list that was published
pub record PublishedValue : Type 0 where
  pub table : TableValue
  pub published : TableValue
  pub pending : List Proposal
  pub list : List Proposal

-- a table that is published as it is, with no step before
abbrev pub published_as_it_is : TableValue → PublishedValue
published_as_it_is table = record { table = table; published = table; pending = []; list = [] }

-- the pending steps lead from the published table to the table, and
-- the published list to the published one
pub record IsPublished (config : Config) (value : PublishedValue) : Type 0 where
  pub pending : LeadTo value.published value.pending value.table
  pub snapshot : IsSnapshot config value.list value.published

-- why an action isn't performed, unless memory is wanting before it is looked at
abbrev pub IsWhyNotUnlessWant : TableValue → Action → Unperformed → Type 0
IsWhyNotUnlessWant table action (undone.Denied denials.NoMemory) = Unit {0}
IsWhyNotUnlessWant table action (undone.Denied (denials.Refused reason)) =
    IsWhyNot table action (undone.Denied (denials.Refused reason))
IsWhyNotUnlessWant table action undone.StepByStep = IsWhyNot table action undone.StepByStep

-- there are no readers, or too many
abbrev pub is_bad_reader_number : ℕ → Bool
is_bad_reader_number readers = is_out_of 1 16 readers

-- a tree may be made by the configuration, for this number of workers and of readers
abbrev pub MayBeRead : Config → ℕ → ℕ → Type 0
MayBeRead config workers readers = MayBeMade config workers × (is_bad_reader_number readers ≡ false)

-- the first fault that applies
abbrev pub IsSnapFault : Config → ℕ → ℕ → SnapFault → Type 0
IsSnapFault config workers readers (BadConfig bad) = first_bad_field config ≡ Some bad.0
IsSnapFault config workers readers BadWorkers =
    (first_bad_field config ≡ None) × (is_bad_number workers ≡ true)
IsSnapFault config workers readers BadReaders =
    MayBeMade config workers × (is_bad_reader_number readers ≡ true)
IsSnapFault config workers readers NoMemory = MayBeRead config workers readers
IsSnapFault config workers readers NoReader = MayBeRead config workers readers

-- memory or a place was short: no bad number was the fault
abbrev pub IsWant : SnapFault → Type 0
IsWant (BadConfig bad) = ⊥
IsWant BadWorkers = ⊥
IsWant BadReaders = ⊥
IsWant NoMemory = Unit {0}
IsWant NoReader = Unit {0}
