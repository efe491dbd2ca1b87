-- What put, set and delete leave of the worker: one receipt for each reply.
use Rattle.std.specs.Prelude.{◌≡◌, ◌⊎◌, ℕ, Bool, true, false, [], ◌∷◌, ◌++◌, Option, Some, None, Result, Ok, Err}
use Rattle.bw_keys.specs.declared.wished.Wished.{Wished}
use Rattle.bw_keys.specs.declared.wished.Wished.TheVariants as wishes
use Rattle.bw_step.specs.declared.receipt.Receipt.{Receipt}
use Rattle.bw_step.specs.declared.receipt.Receipt.TheVariants as receipts
use Rattle.bw_step.specs.declared.view.Look.{Look}
use Rattle.bw_step.specs.Tellings.{without_shapes}
use Rattle.bw_procedures.specs.declared.fault.Fault.{Fault}
use Rattle.bw_procedures.specs.declared.fault.Fault.TheVariants as faults
use Rattle.bw_procedures.specs.declared.reply.Del.{Del}
use Rattle.bw_procedures.specs.declared.reply.Del.TheVariants.{Removed, NoKey}
use Rattle.bw_procedures.specs.declared.reply.Put.{Put}
use Rattle.bw_procedures.specs.declared.reply.Put.TheVariants.{Inserted, Present}
use Rattle.bw_procedures.specs.declared.reply.Set.{Set}
use Rattle.bw_procedures.specs.declared.reply.Set.TheVariants as sets
use Rattle.bw_procedures.specs.declared.steps.Keep.{Keep}
use Rattle.bw_procedures.specs.declared.steps.Keep.TheVariants.{IfFound, IfNone, Never}
use Rattle.bw_procedures.specs.declared.writing.Arrival.{Arrival}
use Rattle.bw_procedures.specs.declared.writing.Arrival.TheVariants.{Gone, Here, Help}
use Rattle.bw_procedures.specs.declared.writing.Tried.{Tried}
use Rattle.bw_procedures.specs.declared.writing.Tried.TheVariants.{Reply, Tend, Again, Kept}
use Rattle.bw_procedures.specs.Seen.{Seen, Grows, is_kept}
use Rattle.bw_procedures.specs.Calls.{OnlyReshapes, IsEarned, RoseBy}

-- the receipt that goes with a put's reply: the insertion of the pair, or the look that found the key's value
abbrev pub IsReceiptOfPut : ℕ → ℕ → Put → Receipt → Type 0
IsReceiptOfPut key value Inserted (receipts.Inserted number k v) = (k ≡ key) × (v ≡ value)
IsReceiptOfPut key value (Present there) (receipts.Looked at k found) = (k ≡ key) × (found ≡ Some there)
IsReceiptOfPut key value reply receipt = ⊥

-- the receipt that goes with a set's reply: the insertion of the pair, or the modification of the key from the value that was there
abbrev pub IsReceiptOfSet : ℕ → ℕ → Set → Receipt → Type 0
IsReceiptOfSet key value sets.Inserted (receipts.Inserted number k v) = (k ≡ key) × (v ≡ value)
IsReceiptOfSet key value (sets.Replaced there) (receipts.Modified number k old v) = (k ≡ key) × (old ≡ there) × (v ≡ value)
IsReceiptOfSet key value reply receipt = ⊥

-- the receipt that goes with a delete's reply: the deletion of the key, with the value that was there, or the look that found none
abbrev pub IsReceiptOfDelete : ℕ → Del → Receipt → Type 0
IsReceiptOfDelete key (Removed value) (receipts.Deleted number k v) = (k ≡ key) × (v ≡ value)
IsReceiptOfDelete key NoKey (receipts.Looked at k found) = (k ≡ key) × (found ≡ None)
IsReceiptOfDelete key reply receipt = ⊥

-- the receipt of the key's deletion, whatever value it had
abbrev pub IsDeletionOf : ℕ → Receipt → Type 0
IsDeletionOf key (receipts.Deleted number k value) = k ≡ key
IsDeletionOf key receipt = ⊥

-- the receipt by which the key has the value, whatever it had
abbrev pub IsSettingOf : ℕ → ℕ → Receipt → Type 0
IsSettingOf key value (receipts.Inserted number k v) = (k ≡ key) × (v ≡ value)
IsSettingOf key value (receipts.Modified number k old v) = (k ≡ key) × (v ≡ value)
IsSettingOf key value receipt = ⊥

-- which looks answer a wish: those that find it true
abbrev pub keep_for : Wished → Keep
keep_for (wishes.Put value) = IfFound
keep_for (wishes.Set value) = Never
keep_for wishes.Delete = IfNone

-- the receipt of a change by which a wish comes true
abbrev pub IsChangeFor : ℕ → Wished → Receipt → Type 0
IsChangeFor key (wishes.Put value) receipt = IsReceiptOfPut key value Inserted receipt
IsChangeFor key (wishes.Set value) receipt = IsSettingOf key value receipt
IsChangeFor key wishes.Delete receipt = IsDeletionOf key receipt

-- the receipt that goes with a wish that came true: that of its change, or of a look that answers it
abbrev pub IsReceiptFor : ℕ → Wished → Receipt → Type 0
IsReceiptFor key wished (receipts.Looked at k found) = (k ≡ key) × (is_kept (keep_for wished) found ≡ true)
IsReceiptFor key wished receipt = IsChangeFor key wished receipt

-- what a key had before a wish came true by this receipt
abbrev pub had_by : Wished → Receipt → Option ℕ
had_by (wishes.Put value) (receipts.Looked at k found) = found
had_by (wishes.Set value) (receipts.Modified number k old v) = Some old
had_by wishes.Delete (receipts.Deleted number k v) = Some v
had_by wished receipt = None

-- what a put, a set and a delete reply where the key had this
abbrev pub put_of : Option ℕ → Put
put_of None = Inserted
put_of (Some value) = Present value

abbrev pub set_of : Option ℕ → Set
set_of None = sets.Inserted
set_of (Some value) = sets.Replaced value

abbrev pub del_of : Option ℕ → Del
del_of None = NoKey
del_of (Some value) = Removed value

-- the receipt of a wish for a key that had this
abbrev pub IsReplyOf : ℕ → Wished → Option ℕ → Receipt → Type 0
IsReplyOf key (wishes.Put value) had = IsReceiptOfPut key value (put_of had)
IsReplyOf key (wishes.Set value) had = IsReceiptOfSet key value (set_of had)
IsReplyOf key wishes.Delete had = IsReceiptOfDelete key (del_of had)

-- one receipt that isn't Shaped was added, and it is this reply's
abbrev pub AddsReceipt : {T : Type 0} → (T → Receipt → Type 0) → T → Seen → Seen → Type 0
AddsReceipt is_of reply old new = (receipt : Receipt) × (without_shapes new.trail ≡ without_shapes old.trail ++ receipt ∷ []) × is_of reply receipt

-- a fault that is kept beside a reply is earned
abbrev pub KeptIsEarned : ℕ → Seen → Seen → Option Fault → Type 0
KeptIsEarned limit old new None = Unit {0}
KeptIsEarned limit old new (Some fault) = IsEarned limit old new fault

-- one attempt of a call; a fault is kept no more than once
abbrev pub Attempts : (Option ℕ → Receipt → Type 0) → Bool → ℕ → Result Tried Fault → Seen → Seen → Type 0
Attempts is_of passes_posts limit (Ok (Reply reply)) old new = AddsReceipt is_of reply old new × Grows old new
Attempts is_of passes_posts limit (Ok (Tend reply page)) old new = AddsReceipt is_of reply old new × Grows old new
Attempts is_of passes_posts limit (Ok Again) old new = OnlyReshapes old new × RoseBy 1 old.effort new.effort
Attempts is_of passes_posts limit (Ok (Kept fault)) old new = OnlyReshapes old new × IsEarned limit old new fault × (passes_posts ≡ false)
Attempts is_of passes_posts limit (Err fault) old new = OnlyReshapes old new × IsEarned limit old new fault

-- an attempt at once: nothing, or a reply
abbrev pub AttemptsAtOnce : (Option ℕ → Receipt → Type 0) → Option Tried → Seen → Seen → Type 0
AttemptsAtOnce is_of None old new = new ≡ old
AttemptsAtOnce is_of (Some (Reply reply)) old new = AddsReceipt is_of reply old new × Grows old new
AttemptsAtOnce is_of (Some (Tend reply page)) old new = AddsReceipt is_of reply old new × Grows old new
AttemptsAtOnce is_of (Some Again) old new = ⊥
AttemptsAtOnce is_of (Some (Kept fault)) old new = ⊥

-- help on a writer's walk
abbrev pub Helped : Bool → ℕ → Result Tried Fault → Seen → Seen → Type 0
Helped passes_posts limit (Ok (Reply reply)) old new = ⊥
Helped passes_posts limit (Ok (Tend reply page)) old new = ⊥
Helped passes_posts limit (Ok Again) old new = OnlyReshapes old new × RoseBy 1 old.effort new.effort
Helped passes_posts limit (Ok (Kept fault)) old new = OnlyReshapes old new × IsEarned limit old new fault × (passes_posts ≡ false)
Helped passes_posts limit (Err fault) old new = OnlyReshapes old new × IsEarned limit old new fault

-- a place that was gone cost effort
abbrev pub ArrivalCosts : Arrival → Seen → Seen → Type 0
ArrivalCosts Gone old new = RoseBy 1 old.effort new.effort
ArrivalCosts (Here view) old new = Unit {0}
ArrivalCosts (Help todo) old new = Unit {0}

-- the fault in the end is the one kept, or it is earned
abbrev pub EndsEarned : ℕ → Option Fault → Option Fault → Seen → Seen → Type 0
EndsEarned limit kept None old new = kept ≡ None
EndsEarned limit kept (Some fault) old new = (kept ≡ Some fault) ⊎ IsEarned limit old new fault

-- a look that is kept adds its receipt, and one that isn't adds none
abbrev pub LookAdds : Bool → ℕ → Option ℕ → Seen → Seen → Type 0
LookAdds true key found old new = ((at : ℕ) × (without_shapes new.trail ≡ without_shapes old.trail ++ receipts.Looked at key found ∷ [])) × Grows old new
LookAdds false key found old new = OnlyReshapes old new

-- one look at a page
abbrev pub FoundBy : Keep → ℕ → Result (Option Look) Fault → Seen → Seen → Type 0
FoundBy keep key (Ok None) old new = OnlyReshapes old new × RoseBy 1 old.effort new.effort
FoundBy keep key (Ok (Some look)) old new = LookAdds (is_kept keep look.found) key look.found old new
FoundBy keep key (Err fault) old new = OnlyReshapes old new × (fault ≡ faults.NoMemory)
