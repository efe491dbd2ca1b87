-- What an action takes, and what it reports when it was performed.
use Rattle.std.specs.Prelude.{◌≡◌, ℕ, suc, Bool, true, false, Option, Some, None}
use Rattle.bw_keys.specs.declared.page.Pid.{Pid}
use Rattle.bw_keys.specs.declared.wished.Wished.{Wished}
use Rattle.bw_keys.specs.declared.wished.Wished.TheVariants as wishes
use Rattle.bw_step.specs.declared.action.Action.{Action}
use Rattle.bw_step.specs.declared.action.Action.TheVariants as actions
use Rattle.bw_step.specs.declared.action.Performed.{Performed}
use Rattle.bw_step.specs.declared.action.Reshaping.{Reshaping}
use Rattle.bw_step.specs.declared.action.Reshaping.TheVariants as reshapings
use Rattle.bw_step.specs.declared.receipt.Kind.TheVariants as kinds
use Rattle.bw_step.specs.declared.receipt.Receipt.{Receipt}
use Rattle.bw_step.specs.declared.receipt.Receipt.TheVariants.{Inserted, Deleted, Modified, Looked, Shaped}

-- whether it takes memory that is made for it before a table's lock is taken
abbrev pub takes_spare : Action → Bool
takes_spare (actions.Change key wished) = false
takes_spare (actions.Record key wished) = true
takes_spare (actions.Reshape page seen how) = false
takes_spare (actions.AddTerm child) = true
takes_spare (actions.Cut page seen) = false
takes_spare (actions.Post child) = false

-- the receipt of a wish for a key that had the value, or none, after n changes: of its change, or
-- of the look where there is nothing to do
abbrev pub receipt_of_wish : ℕ → ℕ → Wished → Option ℕ → Receipt
receipt_of_wish number key (wishes.Put value) None = Inserted (suc number) key value
receipt_of_wish number key (wishes.Put value) (Some had) = Looked number key (Some had)
receipt_of_wish number key (wishes.Set value) None = Inserted (suc number) key value
receipt_of_wish number key (wishes.Set value) (Some had) = Modified (suc number) key had value
receipt_of_wish number key wishes.Delete None = Looked number key None
receipt_of_wish number key wishes.Delete (Some had) = Deleted (suc number) key had

-- the receipt of the wish, whatever the key had
abbrev pub IsReceiptOfWish : ℕ → Wished → Receipt → Type 0
IsReceiptOfWish key wished receipt =
    (number : ℕ) × (had : Option ℕ) × (receipt ≡ receipt_of_wish number key wished had)

-- the receipt of the page's reshaping
abbrev pub IsReceiptOfReshaping : Reshaping → Pid → Receipt → Type 0
IsReceiptOfReshaping reshapings.Consolidate page receipt =
    receipt ≡ Shaped kinds.Consolidate page None
IsReceiptOfReshaping reshapings.Halve page receipt =
    (new : Pid) × (receipt ≡ Shaped kinds.Split page (Some new))

-- what was performed is reported, whatever the table was: the key that was wished of, the page that
-- was named, and the parent of the child
abbrev pub Reports : Action → Performed → Type 0
Reports (actions.Change key wished) it = (it.key ≡ key) × IsReceiptOfWish key wished it.receipt
Reports (actions.Record key wished) it = (it.key ≡ key) × IsReceiptOfWish key wished it.receipt
Reports (actions.Reshape page seen how) it =
    (it.page ≡ page) × IsReceiptOfReshaping how page it.receipt
Reports (actions.AddTerm child) it = it.receipt ≡ Shaped kinds.TermAdd it.page (Some child)
Reports (actions.Cut page seen) it =
    (it.page ≡ page) × IsReceiptOfReshaping reshapings.Halve page it.receipt
Reports (actions.Post child) it = it.receipt ≡ Shaped kinds.TermAdd it.page (Some child)
