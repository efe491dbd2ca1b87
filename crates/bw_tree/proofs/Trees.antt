-- What the law of a table says of a tree.
use Rattle.std.proofs.Common.{◌≡◌, ℕ, zero, suc, ◌<◌, List, Option, Some, None, refl, sym, subst, ◌∙◌, ap, arith}
use Rattle.bw_keys.specs.declared.config.Config.{Config}
use Rattle.bw_keys.specs.declared.range.Fence.{Fence}
use Rattle.std.specs.Prelude.{is_some}
use Rattle.bw_keys.specs.Ranges.{end_of, key_count}
use Rattle.bw_delta.proofs.Rises.{there-below}
use Rattle.bw_chain.specs.Leaves.{AppendsLeaf, ReadsLeaf}
use Rattle.bw_table.specs.Orders.{ArePairsWithin}
use Rattle.bw_step.specs.declared.receipt.Receipt.{Receipt}
use Rattle.bw_step.specs.declared.survey.Book.{Book}
use Rattle.bw_step.specs.Proposals.{Proposal}
use Rattle.bw_step.specs.Tellings.{Telling, change, look, shape, telling_of}
use Rattle.bw_law.specs.Effects.{TakesStep, after, receipt_of}
use Rattle.bw_law.specs.Laws.{MapAfter}
use Rattle.bw_law.specs.Refusals.{refusal}
use Rattle.bw_law.specs.Tables.{TableValue, Lawful, Booked, Maps, book_with, joined_pairs}
use Rattle.bw_law.proofs.AllSteps.{step_law}
use Rattle.bw_law.proofs.Count.{joined_count}
use Rattle.bw_law.proofs.MapAndTerms.{map_law}
use Rattle.bw_law.proofs.RowList.{row_law}
use Rattle.bw_law.proofs.Walk.{walk_law}
use Rattle.bw_tree.specs.Ranges.{LiesIn, all_keys}
use Rattle.bw_tree.specs.Shares.{ShareValue, shared_in, share_with, counted, sum_of}
use Rattle.bw_tree.specs.Trees.{IsTree, IsClosed, CountsPairs, IsBookOf, MayBeMade, ReadsTree}

pub is_tree : (table : TableValue) → Lawful table → Booked table → IsTree table
is_tree table law booked =
    let leaves = row_law table law 0 (omega arith) in record {
      lawful = law;
      booked = booked;
      leaves = leaves;
      searches = walk_law table law;
      map = map_law table law leaves.row leaves.is_row;
      pairs = λ row is. omega (arith, booked, joined_count table.slots row is);
    }

-- a number of workers that a tree may have
pub some_workers : (config : Config) (workers : ℕ) → MayBeMade config workers → 0 < workers
some_workers config zero made = let bad = made.1 in absurd (cc (bad))
some_workers config (suc n) made = omega arith

-- a table whose book was counted by its stock
pub begun_book : (table : TableValue) (totals : ShareValue) → Lawful table → Booked table → totals ≡ shared_in table.book → IsBookOf table totals
begun_book table totals lawful booked begun = record { lawful = lawful; booked = booked; book = sym begun }

-- what is counted in a book is counted so in what the shares hold of it
shares_count : (book : Book) (reported : Telling) → shared_in (book_with book reported) ≡ share_with (shared_in book) reported
shares_count book (change number key None None) = refl
shares_count book (change number key None (Some value)) = refl
shares_count book (change number key (Some value) None) = refl
shares_count book (change number key (Some old) (Some value)) = refl
shares_count book (look at key found) = refl
shares_count book shape = refl

-- the table after an accepted step, whose receipt was counted
pub book_kept : (old new : TableValue) (step : Proposal) (receipt : Receipt) (totals more : ShareValue)
    → IsBookOf old totals → refusal old step ≡ None → TakesStep old step receipt new → more ≡ counted totals receipt → IsBookOf new more
book_kept old new step receipt totals more kept none taken is =
    let law = step_law old step kept.lawful kept.booked none in
    let same : shared_in (after old step).book ≡ more =
    shares_count old.book (telling_of (receipt_of old step)) ∙ ap (counted (shared_in old.book)) (sym taken.reported) ∙ ap (λ share. counted share receipt) kept.book ∙ sym is in
    rw taken.leads (record { lawful = law.lawful; booked = law.booked; book = same })

-- what an accepted step makes of the map
pub map_after : (table : TableValue) (step : Proposal) (totals : ShareValue) → IsBookOf table totals → refusal table step ≡ None → MapAfter table step
map_after table step totals kept none = (step_law table step kept.lawful kept.booked none).map

-- the table of a tree
pub tree_of : (table : TableValue) (totals : ShareValue) → IsBookOf table totals → IsTree table
tree_of table totals kept = is_tree table kept.lawful kept.booked

-- the table of a tree whose totals are the sum of all shares
pub closed : (table : TableValue) (config : Config) (totals : ShareValue) (shares : List ShareValue)
    → IsBookOf table totals → table.config ≡ config → totals ≡ sum_of shares → IsClosed config shares table
closed table config totals shares kept made sum =
    let tree = tree_of table totals kept in
    let book : shared_in table.book ≡ sum_of shares = kept.book ∙ sum in
    record { config = made; tree = tree; book = book; pairs = subst (CountsPairs table) book tree.pairs }

pub key_within : (table : TableValue) → IsTree table → (key value : ℕ) → Maps table.slots key value → key < key_count
key_within table tree key value maps =
    let found = (tree.map.same key value).1 maps in
    there-below key_count 0 key (joined_pairs table.slots tree.leaves.row) (ap is_some found) tree.map.rise

-- a tree alone takes all keys
pub all_within : (table : TableValue) → IsTree table → LiesIn all_keys table.slots
all_within table tree key value maps = (omega arith, key_within table tree key value maps)

-- what was read of its table was read of the tree
pub tree_read : (table : TableValue) (key : ℕ) (high : Fence) (limit : ℕ) (result : Option Fence) (old new : List (ℕ × ℕ))
    → IsTree table → ReadsLeaf (ArePairsWithin table) key high limit result old new → ReadsTree key high limit result old new
tree_read table key high limit None old new tree read = read
tree_read table key high limit (Some end) old new tree read = (table, tree, read)

-- and whatever is shown of all pairs, of those too
pub read_of_tree : (shows : ℕ → ℕ → List (ℕ × ℕ) → Type 0) → ((low end : ℕ) (pairs : List (ℕ × ℕ)) → shows low end pairs)
    → (key : ℕ) (high : Fence) (limit : ℕ) (result : Option Fence) (old new : List (ℕ × ℕ)) → ReadsTree key high limit result old new
    → ReadsLeaf shows key high limit result old new
read_of_tree shows all key high limit None old new read = read
read_of_tree shows all key high limit (Some end) old new read = let it = read.2 in record {
  pairs = it.pairs;
  shown = all key (end_of end) it.pairs;
  rise = it.rise;
  above = it.above;
  counted = it.counted;
  appended = it.appended;
}
