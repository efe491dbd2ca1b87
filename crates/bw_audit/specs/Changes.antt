-- The changes that receipts tell of, and the map after some of them.
use Rattle.std.specs.Prelude.{ℕ, zero, suc, ◌==◌, cond, List, [], ◌∷◌, ◌++◌, Option, Some, None}
use Rattle.bw_step.specs.declared.receipt.Receipt.{Receipt}
use Rattle.bw_step.specs.Tellings.{Telling, change, telling_of}
use Rattle.bw_audit.specs.declared.change.Change.{Change}

-- the change of a telling, if it is of one
abbrev pub change_reported : Telling → Option Change
change_reported (change number key before after) = Some (record { number = number; key = key; before = before; after = after })
change_reported reported = None

abbrev pub change_of : Receipt → Option Change
change_of receipt = change_reported (telling_of receipt)

abbrev pub add_change : Option Change → List Change → List Change
add_change None cs = cs
add_change (Some c) cs = c ∷ cs

-- the changes of a trail, in its order
abbrev pub changes_of : List Receipt → List Change
changes_of [] = []
changes_of (r ∷ rs) = add_change (change_of r) (changes_of rs)

-- the changes of all trails, worker by worker
abbrev pub all_changes : List (List Receipt) → List Change
all_changes [] = []
all_changes (t ∷ ts) = changes_of t ++ all_changes ts

-- the first change that bears a number
abbrev pub bearer : List Change → ℕ → Option Change
bearer [] number = None
bearer (c ∷ cs) number = cond (c.number == number) (Some c) (bearer cs number)

-- what a key has after a change, where it had this before it
abbrev pub changed_by : Option Change → ℕ → Option ℕ → Option ℕ
changed_by None key had = had
changed_by (Some c) key had = cond (c.key == key) c.after had

-- what a key has after the changes numbered 1 to m: of those of the key, the one with the greatest number says it
abbrev pub value_at : List Change → ℕ → ℕ → Option ℕ
value_at cs zero key = None
value_at cs (suc m) key = changed_by (bearer cs (suc m)) key (value_at cs m key)
