-- What makes a history legal: one order of its changes explains every reply.
use Rattle.std.specs.Prelude.{ℕ, ◌+◌, ◌-◌, ◌==◌, ◌≡◌, ◌≤◌, ◌<◌, not, Bool, true, cond, List, [], ◌∷◌, length, nat_lt}
use Rattle.std.specs.List.{AllByRecursion}
use Rattle.bw_delta.specs.Entries.{at}
use Rattle.bw_step.specs.declared.receipt.Receipt.{Receipt}
use Rattle.bw_step.specs.Tellings.{Telling, change, look, shape, telling_of}
use Rattle.bw_audit.specs.declared.change.Change.{Change}
use Rattle.bw_audit.specs.Changes.{all_changes, value_at}

-- the position of a change is its number, and that of a look the count of changes that it saw:
-- a change stands above what was before it in its trail, and a look not below it
abbrev pub rises_from : ℕ → Telling → Bool
rises_from last (change number key before after) = nat_lt last number
rises_from last (look seen key found) = not (nat_lt seen last)
rises_from last shape = true

abbrev pub position_after : ℕ → Telling → ℕ
position_after last (change number key before after) = number
position_after last (look seen key found) = seen
position_after last shape = last

-- the receipts of a trail stand in the order of their positions
abbrev pub AllRise : ℕ → List Receipt → Type 0
AllRise last [] = Unit {0}
AllRise last (r ∷ rs) = (rises_from last (telling_of r) ≡ true) × AllRise (position_after last (telling_of r)) rs

-- a telling is true of the map: what a key had before a change, or what a look found
abbrev pub IsTrueOf : List Change → Telling → Type 0
IsTrueOf cs (change number key before after) = value_at cs (number - 1) key ≡ before
IsTrueOf cs (look seen key found) = (seen ≤ length cs) × (value_at cs seen key ≡ found)
IsTrueOf cs shape = Unit {0}

abbrev pub IsTrueReply : List Change → Receipt → Type 0
IsTrueReply cs receipt = IsTrueOf cs (telling_of receipt)

-- how many changes bear a number
abbrev pub times_borne : List Change → ℕ → ℕ
times_borne [] number = 0
times_borne (c ∷ cs) number = cond (c.number == number) 1 0 + times_borne cs number

-- the trails have one order that explains every reply, and it leaves these pairs
pub record IsLegal (trails : List (List Receipt)) (pairs : List (ℕ × ℕ)) : Type 0 where
  -- the numbers of the changes are 1 to their count, each once
  pub numbers : (m : ℕ) → 0 < m → m ≤ length (all_changes trails) → times_borne (all_changes trails) m ≡ 1
  pub replies : AllByRecursion (AllByRecursion (IsTrueReply (all_changes trails))) trails
  pub in_order : AllByRecursion (AllRise 0) trails
  pub left : (key : ℕ) → value_at (all_changes trails) (length (all_changes trails)) key ≡ at key pairs
