-- What each call leaves of the worker that makes it, by one word.
use Rattle.std.specs.Prelude.{◌≡◌, ◌≤◌, ◌<◌, ℕ, List, Option, None, Result, IfOk, IfErr, IfSome, OnOk}
use Rattle.bw_procedures.specs.declared.fault.Fault.{Fault}
use Rattle.bw_procedures.specs.declared.fault.Fault.TheVariants.{NoMemory}
use Rattle.bw_procedures.specs.declared.reply.Cleared.{Cleared}
use Rattle.bw_procedures.specs.declared.reply.Slice.{Slice}
use Rattle.bw_procedures.specs.Calls.{AddsLook, Earned, OnlyReshapes, OnlySpends, RoseBy}
use Rattle.bw_procedures.specs.Clearing.{AddsRemovals, IsSwept}
use Rattle.bw_procedures.specs.Seen.{Seen, Grows}
use Rattle.bw_procedures.specs.Slices.{IsSliceFrom}

-- where nobody else takes steps, a call that reads fails only for want of memory, and costs no effort
pub record ReadsInCalm {T : Type 0} (calm : Type 0) (result : Result T Fault) (old new : Seen) : Type 0 where
  pub fault : calm → IfErr result (λ fault. fault ≡ NoMemory)
  pub no_effort : calm → new.effort ≡ old.effort

-- a get adds the look that it replies
pub record Gets (key : ℕ) (calm : Type 0) (result : Result (Option ℕ) Fault) (old new : Seen) : Type 0 where
  pub grows : Grows old new
  pub receipt : AddsLook key result old.trail new.trail
  pub fault : IfErr result (Earned old new)
  pub in_calm : ReadsInCalm calm result old new

-- a cursor adds no receipt, and its slice begins at the key
pub record ReadsPage (key : ℕ) (calm : Type 0) (result : Result Slice Fault) (old new : Seen) : Type 0 where
  pub seen : OnlySpends old new
  pub slice : IfOk result (IsSliceFrom key)
  pub fault : IfErr result (Earned old new)
  pub in_calm : ReadsInCalm calm result old new

-- a clear adds the receipts of deletions in the range, and counts those that took a key out
pub record Clears (low end : ℕ) (cleared : Cleared) (old new : Seen) : Type 0 where
  pub grows : Grows old new
  pub receipts : AddsRemovals low end cleared.removed old new
  pub fault : IfSome cleared.fault (Earned old new)

-- without a fault, each key of the range was missing at a moment of the call, or was deleted since
abbrev pub SweepsRange : {S : Type 0} → (S → Seen) → (S → S → Type 0) → (S → ℕ → ℕ → List (ℕ × ℕ) → Type 0) → ℕ → ℕ → Cleared → S → S → Type 0
SweepsRange seen follows shows low end cleared old new =
    cleared.fault ≡ None → (key : ℕ) → low ≤ key → key < end → IsSwept seen follows shows key old new

-- tending adds only receipts of the tree's shape
pub record Tends {T : Type 0} (result : Result T Fault) (old new : Seen) : Type 0 where
  pub reshapes : OnlyReshapes old new
  pub fault : IfErr result (Earned old new)

-- and so does help, which costs effort
pub record Helps {T : Type 0} (result : Result T Fault) (old new : Seen) : Type 0 where
  pub tends : Tends result old new
  pub cost : OnOk result (RoseBy 1 old.effort new.effort)
