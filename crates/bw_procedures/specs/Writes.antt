-- What a put, a set or a delete leaves of the worker.
use Rattle.std.specs.Prelude.{◌≡◌, ℕ, Result, IfOk, IfErr, IfSome, OnErr}
use Rattle.bw_step.specs.declared.receipt.Receipt.{Receipt}
use Rattle.bw_step.specs.Tellings.{without_shapes}
use Rattle.bw_procedures.specs.declared.fault.Fault.{Fault}
use Rattle.bw_procedures.specs.declared.reply.Done.{Done}
use Rattle.bw_procedures.specs.declared.reply.Del.{Del}
use Rattle.bw_procedures.specs.declared.reply.Put.{Put}
use Rattle.bw_procedures.specs.declared.reply.Set.{Set}
use Rattle.bw_procedures.specs.Seen.{Seen, Grows}
use Rattle.bw_procedures.specs.Calls.{Earned}
use Rattle.bw_procedures.specs.Writing.{AddsReceipt, IsReceiptOfPut, IsReceiptOfSet, IsReceiptOfDelete}

-- a write, whose reply has its receipt by `is_of`
pub record Writes {T : Type 0} (is_of : T → Receipt → Type 0) (result : Result (Done T) Fault) (old new : Seen) : Type 0 where
  -- nothing falls, and no receipt is lost
  pub grows : Grows old new
  -- beside those of the tree's shape, the reply's receipt was added, and no other
  pub receipt : IfOk result (λ done. AddsReceipt is_of done.reply old new)
  -- without a reply, none but those of the tree's shape
  pub no_receipt : OnErr result (without_shapes new.trail ≡ without_shapes old.trail)
  -- the fault in a reply's place is earned
  pub fault : IfErr result (Earned old new)
  -- so is the one beside it
  pub kept : IfOk result (λ done. IfSome done.fault (Earned old new))

abbrev pub Puts : ℕ → ℕ → Result (Done Put) Fault → Seen → Seen → Type 0
Puts key value result old new = Writes (IsReceiptOfPut key value) result old new

abbrev pub Sets : ℕ → ℕ → Result (Done Set) Fault → Seen → Seen → Type 0
Sets key value result old new = Writes (IsReceiptOfSet key value) result old new

abbrev pub Deletes : ℕ → Result (Done Del) Fault → Seen → Seen → Type 0
Deletes key result old new = Writes (IsReceiptOfDelete key) result old new
