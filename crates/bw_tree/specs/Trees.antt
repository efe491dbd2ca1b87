-- What is true of a shared table whenever its lock is free.
use Rattle.std.specs.Prelude.{◌≡◌, ℕ, ◌+◌, ◌<◌, Bool, true, false, List, length, Option, Some, None}
use Rattle.std.specs.declared.sync.ledger.Ledger.{Ghosts as Ledger}
use Rattle.bw_keys.specs.declared.config.Config.{Config}
use Rattle.bw_keys.specs.Limits.{first_bad_field, is_out_of}
use Rattle.bw_keys.specs.declared.range.Fence.{Fence}
use Rattle.bw_keys.specs.Ranges.{end_of, key_count}
use Rattle.bw_chain.specs.Leaves.{AppendsLeaf}
use Rattle.bw_step.specs.Proposals.{Proposal}
use Rattle.bw_step.specs.declared.receipt.Receipt.{Receipt}
use Rattle.bw_law.specs.Effects.{TakesStep}
use Rattle.bw_law.specs.Laws.{HasOneRow, HasOneWalk, IsTheMap}
use Rattle.bw_law.specs.Tables.{TableValue, Lawful, Booked, outlines, joined_pairs}
use Rattle.bw_law.specs.Walks.{IsRowOf}
use Rattle.bw_table.specs.Orders.{ArePairsWithin}
use Rattle.bw_tree.specs.Shares.{ShareValue, shared_in, sum_of, Opens}
use Rattle.bw_tree.specs.declared.fault.NewFault.{NewFault}
use Rattle.bw_tree.specs.declared.fault.NewFault.TheVariants.{BadConfig, BadWorkers, NoMemory}
use Rattle.bw_tree.specs.declared.share.Blanks.{Blanks}

-- the leaf row's pairs are as many as the insertions less the removals
abbrev pub CountsPairs : TableValue → ShareValue → Type 0
CountsPairs table share =
    (row : List ℕ) → IsRowOf (outlines table.slots) key_count 0 row
    → share.inserted ≡ share.removed + length (joined_pairs table.slots row)

-- The table is lawful. So its leaves, along the side links, partition the keys; each search
-- from the root ends at the one leaf whose range holds its key; and the leaves' pairs are
-- the map, and as many as the book says.
pub record IsTree (table : TableValue) : Type 0 where
  pub lawful : Lawful table
  pub booked : Booked table
  pub leaves : HasOneRow table 0
  pub searches : (key : ℕ) → key < key_count → HasOneWalk table key
  pub map : IsTheMap table (joined_pairs table.slots leaves.row)
  pub pairs : CountsPairs table (shared_in table.book)

-- the table is lawful, and its book has these insertions and removals
pub record IsBookOf (table : TableValue) (totals : ShareValue) : Type 0 where
  pub lawful : Lawful table
  pub booked : Booked table
  pub book : shared_in table.book ≡ totals

-- a closed tree's table: its book is the sum of all shares
pub record IsClosed (made : Config) (shares : List ShareValue) (table : TableValue) : Type 0 where
  pub config : table.config ≡ made
  pub tree : IsTree table
  pub book : shared_in table.book ≡ sum_of shares
  pub pairs : CountsPairs table (sum_of shares)

-- the step leads from the old table to the new one, with this receipt
abbrev pub Leads : TableValue → Proposal → TableValue → Receipt → Type 0
Leads old step new receipt = TakesStep old step receipt new

-- There was a lawful table with this leaf, of which the first pairs were appended to a list; or
-- nothing was done.
abbrev pub ReadsTree : ℕ → Fence → ℕ → Option Fence → List (ℕ × ℕ) → List (ℕ × ℕ) → Type 0
ReadsTree key high limit None old new = new ≡ old
ReadsTree key high limit (Some end) old new =
    (table : TableValue) × IsTree table
    × AppendsLeaf (ArePairsWithin table) key (end_of high) limit (end_of end) old new

-- there are no workers, or too many
abbrev pub is_bad_number : ℕ → Bool
is_bad_number workers = is_out_of 1 64 workers

-- a tree may be made by the configuration, for this number of workers
abbrev pub MayBeMade : Config → ℕ → Type 0
MayBeMade config workers = (first_bad_field config ≡ None) × (is_bad_number workers ≡ false)

-- the first bad field; bad workers where there is none; want of memory where neither is
abbrev pub IsNewFault : Config → ℕ → NewFault → Type 0
IsNewFault config workers (BadConfig bad) = first_bad_field config ≡ Some bad.0
IsNewFault config workers BadWorkers =
    (first_bad_field config ≡ None) × (is_bad_number workers ≡ true)
IsNewFault config workers NoMemory = MayBeMade config workers

-- two types may stand for the blank ledgers of a tree alone, and the first of them
-- names the configuration that it is made by
pub record OpensFor {I D : Type 0} (insertions : Ledger I) (named : Config) (removals : Ledger D)
    (config : Config) (blanks : Blanks) : Type 0 where
  pub inserted : Opens insertions.name insertions.parts blanks.insertions
  pub removed : Opens removals.name removals.parts blanks.removals
  pub made : named ≡ config
  pub alone : blanks.trees ≡ 1
