-- When the receipts of a run so far explain the table that there is.
use Rattle.std.specs.Prelude.{◌≡◌, ◌↔◌, ◌<◌, ◌≤◌, ℕ, List, length, Some, None}
use Rattle.std.specs.List.{AllByRecursion}
use Rattle.bw_step.specs.declared.receipt.Receipt.{Receipt}
use Rattle.bw_step.specs.Tellings.{Telling, change, look, shape, telling_of}
use Rattle.bw_law.specs.Tables.{TableValue, number_of, Lawful, Booked, Maps}
use Rattle.bw_audit.specs.declared.change.Change.{Change}
use Rattle.bw_audit.specs.Changes.{all_changes, bearer, value_at}
use Rattle.bw_audit.specs.Legal.{AllRise, IsTrueReply, times_borne}

-- the position of a telling isn't above the count of changes
abbrev pub IsWithin : ℕ → Telling → Type 0
IsWithin n (change number key before after) = number ≤ n
IsWithin n (look seen key found) = seen ≤ n
IsWithin n shape = Unit {0}

abbrev pub IsFine : List Change → Receipt → Type 0
IsFine cs r = IsWithin (length cs) (telling_of r) × IsTrueReply cs r

abbrev pub IsFineTrail : List Change → List Receipt → Type 0
IsFineTrail cs t = AllByRecursion (IsFine cs) t × AllRise 0 t

-- one order of the changes explains the table that there is
pub record Explains (table : TableValue) (trails : List (List Receipt)) : Type 0 where
  pub lawful : Lawful table
  pub booked : Booked table
  pub counted : number_of table.book ≡ length (all_changes trails)
  pub numbers : (m : ℕ) → 0 < m → m ≤ length (all_changes trails) → times_borne (all_changes trails) m ≡ 1
  pub no_others : (m : ℕ) → length (all_changes trails) < m → bearer (all_changes trails) m ≡ None
  pub fine : AllByRecursion (IsFineTrail (all_changes trails)) trails
  pub left : (key value : ℕ) → (value_at (all_changes trails) (length (all_changes trails)) key ≡ Some value) ↔ Maps table.slots key value
