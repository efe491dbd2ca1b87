-- What contracts see of a worker, and what each of its atomic steps leaves of that.
use Rattle.std.specs.Prelude.{◌≡◌, ℕ, ◌+◌, ◌-◌, ◌≤◌, ◌^◌, min, max, Bool, if◌then◌else◌, is_some, is_none, true, false, List, [], ◌∷◌, ◌++◌, Option, Some, None, Result, Ok, Err}
use Rattle.bw_keys.specs.declared.config.Config.{Config}
use Rattle.bw_delta.specs.declared.fault.NoMemory.{NoMemory}
use Rattle.bw_step.specs.Proposals.{Proposal}
use Rattle.bw_step.specs.declared.place.Go.{Go}
use Rattle.bw_step.specs.declared.place.Go.TheVariants.{Gone, Right, Down, Here}
use Rattle.bw_step.specs.declared.receipt.Receipt.{Receipt}
use Rattle.bw_step.specs.declared.receipt.Receipt.TheVariants as receipts
use Rattle.bw_step.specs.declared.refused.Refused.{Refused}
use Rattle.bw_step.specs.declared.refused.Refused.TheVariants as reasons
use Rattle.bw_step.specs.declared.view.Look.{Look}
use Rattle.bw_step.specs.declared.fault.CopyFault.{CopyFault}
use Rattle.bw_step.specs.declared.fault.CopyFault.TheVariants as copy_faults
use Rattle.bw_step.specs.declared.fault.Denied.{Denied}
use Rattle.bw_step.specs.declared.fault.Denied.TheVariants as denied
use Rattle.bw_step.specs.Steps.{IsReceiptOf}
use Rattle.bw_step.specs.Tellings.{Telling, shape, telling_of}
use Rattle.bw_procedures.specs.declared.steps.Keep.{Keep}
use Rattle.bw_procedures.specs.declared.steps.Keep.TheVariants.{Always, IfFound, IfNone, Never}
use Rattle.bw_procedures.specs.declared.steps.Ends.{Ends}

-- a worker: its configuration, the receipts on its trail, its effort, and how often a step was refused because no slot was free, because the
-- tree had its greatest height, or because a number was used up
pub record Seen : Type 0 where
  pub config : Config
  pub trail : List Receipt
  pub effort : ℕ
  pub full : ℕ
  pub tall : ℕ
  pub worn : ℕ

abbrev pub ends_of : Seen → Ends
ends_of seen = record { full = seen.full; tall = seen.tall; worn = seen.worn }

-- a count one higher, but not past 2^64 - 1
abbrev pub one_more : ℕ → ℕ
one_more n = max n (min (n + 1) (2 ^ 64 - 1))

-- all but the effort is the same
pub record SameButEffort (old new : Seen) : Type 0 where
  pub config : new.config ≡ old.config
  pub trail : new.trail ≡ old.trail
  pub full : new.full ≡ old.full
  pub tall : new.tall ≡ old.tall
  pub worn : new.worn ≡ old.worn

-- all but the trail and the effort is the same
pub record SameCounts (old new : Seen) : Type 0 where
  pub config : new.config ≡ old.config
  pub full : new.full ≡ old.full
  pub tall : new.tall ≡ old.tall
  pub worn : new.worn ≡ old.worn

-- receipts were only added: the new trail is the old one, and what was added after it
pub record OnlyAdds (old new : List Receipt) : Type 0 where
  pub added : List Receipt
  pub trail : new ≡ old ++ added

-- nothing falls, and no receipt is lost or changes its place
pub record Grows (old new : Seen) : Type 0 where
  pub config : new.config ≡ old.config
  pub trail : OnlyAdds old.trail new.trail
  pub effort : old.effort ≤ new.effort
  pub full : old.full ≤ new.full
  pub tall : old.tall ≤ new.tall
  pub worn : old.worn ≤ new.worn

-- a visit costs effort where the place was gone
abbrev pub visit_effort : Go → ℕ → ℕ
visit_effort Gone n = one_more n
visit_effort (Right next) n = n
visit_effort (Down next) n = n
visit_effort (Here view) n = n

abbrev pub Visited : Go → Seen → Seen → Type 0
Visited go old new = SameButEffort old new × (new.effort ≡ visit_effort go old.effort)

abbrev pub Idled : Seen → Seen → Type 0
Idled old new = SameButEffort old new × (new.effort ≡ one_more old.effort)

-- whether a look that found this is added to the trail
abbrev pub is_kept : Keep → Option ℕ → Bool
is_kept Always found = true
is_kept IfFound found = is_some found
is_kept IfNone found = is_none found
is_kept Never found = false

abbrev pub trail_after_look : Keep → ℕ → Option Look → List Receipt → List Receipt
trail_after_look keep key None trail = trail
trail_after_look keep key (Some look) trail = if is_kept keep look.found then trail ++ receipts.Looked look.at key look.found ∷ [] else trail

-- a look costs effort where the page wasn't the key's leaf
abbrev pub look_effort : Option Look → ℕ → ℕ
look_effort None n = one_more n
look_effort (Some look) n = n

abbrev pub Looked : Keep → ℕ → Result (Option Look) NoMemory → Seen → Seen → Type 0
Looked keep key (Ok look) old new = SameCounts old new × (new.trail ≡ trail_after_look keep key look old.trail) × (new.effort ≡ look_effort look old.effort)
Looked keep key (Err no_memory) old new = new ≡ old

-- a look at the key's leaf, wherever that is, or nothing
abbrev pub LookedAtOnce : Keep → ℕ → Result (Option Look) NoMemory → Seen → Seen → Type 0
LookedAtOnce keep key (Ok None) old new = new ≡ old
LookedAtOnce keep key (Ok (Some look)) old new = Looked keep key (Ok (Some look)) old new
LookedAtOnce keep key (Err no_memory) old new = new ≡ old

-- a copy costs effort where the page was absent or has changed
abbrev pub copy_effort : {C : Type 0} → Result C CopyFault → ℕ → ℕ
copy_effort (Ok chain) n = n
copy_effort (Err copy_faults.Absent) n = one_more n
copy_effort (Err copy_faults.Stale) n = one_more n
copy_effort (Err copy_faults.NoMemory) n = n

abbrev pub Copied : {C : Type 0} → Result C CopyFault → Seen → Seen → Type 0
Copied result old new = SameButEffort old new × (new.effort ≡ copy_effort result old.effort)

abbrev pub reported_effort : Telling → ℕ → ℕ
reported_effort shape n = one_more n
reported_effort reported n = n

-- an accepted step costs effort where it changes the tree's shape
abbrev pub receipt_effort : Receipt → ℕ → ℕ
receipt_effort receipt n = reported_effort (telling_of receipt) n

-- an accepted step adds its own receipt to the trail
pub record IsAccepted (step : Proposal) (receipt : Receipt) (old new : Seen) : Type 0 where
  pub reported : IsReceiptOf step receipt
  pub counts : SameCounts old new
  pub trail : new.trail ≡ old.trail ++ receipt ∷ []
  pub effort : new.effort ≡ receipt_effort receipt old.effort

abbrev pub full_after : Refused → ℕ → ℕ
full_after reasons.TableFull n = one_more n
full_after _ n = n

abbrev pub tall_after : Refused → ℕ → ℕ
tall_after reasons.TooTall n = one_more n
tall_after _ n = n

abbrev pub worn_after : Refused → ℕ → ℕ
worn_after reasons.Worn n = one_more n
worn_after _ n = n

-- a refused step costs effort, and some refusals are counted
pub record IsRefused (reason : Refused) (old new : Seen) : Type 0 where
  pub config : new.config ≡ old.config
  pub trail : new.trail ≡ old.trail
  pub effort : new.effort ≡ one_more old.effort
  pub full : new.full ≡ full_after reason old.full
  pub tall : new.tall ≡ tall_after reason old.tall
  pub worn : new.worn ≡ worn_after reason old.worn

-- where memory was wanting, no step was taken
abbrev pub Installed : Proposal → Result Receipt Denied → Seen → Seen → Type 0
Installed step (Ok receipt) old new = IsAccepted step receipt old new
Installed step (Err (denied.Refused reason)) old new = IsRefused reason old new
Installed step (Err denied.NoMemory) old new = new ≡ old
