-- Tables of a few pages, and runs of steps on them.
use Rattle.std.specs.Prelude.{ℕ, ◌*◌, List, [], ◌∷◌, Option, Some, None, map, option_map, take}
use Rattle.bw_keys.specs.declared.config.Config.{Config}
use Rattle.bw_keys.specs.declared.range.Fence.{Fence}
use Rattle.bw_keys.specs.declared.range.Fence.TheVariants.{Key, Top}
use Rattle.bw_keys.specs.declared.page.Pid.{Pid}
use Rattle.bw_delta.specs.declared.fences.Fences.{Fences}
use Rattle.bw_delta.specs.Pages.{Page, leaf_page, inner_page, listed_length}
use Rattle.bw_delta.specs.Records.{bare}
use Rattle.bw_step.specs.declared.view.Stage.TheVariants.{Posted}
use Rattle.bw_step.specs.Proposals.{Proposal, insert, consolidate, split, term_add, grow, mark, merge, term_delete}
use Rattle.bw_law.specs.Slots.{SlotValue, free_slot, last_number}
use Rattle.bw_law.specs.Tables.{TableValue, new_table}
use Rattle.bw_law.specs.Effects.{pid}
use Rattle.bw_law.specs.Runs.{run}

abbrev pub small_config : Config
small_config = record { fanout = 4; chain = 4; pages = 64; tries = 100; first_version = 0 }

-- each key with ten times itself as its value
abbrev pub tens : List ℕ → List (ℕ × ℕ)
tens keys = map (λ key. (key, 10 * key)) keys

-- each low with the page that begins there
abbrev pub leads : List (ℕ × ℕ) → List (ℕ × Pid)
leads lows = map (λ (low : ℕ × ℕ). (low.0, pid low.1)) lows

abbrev pub leaf : ℕ → Fence → Option ℕ → List ℕ → Page
leaf low high right keys = leaf_page low high (option_map pid right) (tens keys)

abbrev pub inner : ℕ → Fence → Option ℕ → List (ℕ × ℕ) → Page
inner low high right lows = inner_page low high (option_map pid right) (leads lows)

abbrev pub fence : ℕ → Fence → Option ℕ → Fences
fence low high right = record { low = low; high = high; right = option_map pid right }

-- the slot of a posted page, never changed
abbrev pub posted : ℕ → Page → SlotValue
posted level page = record (free_slot 0) {
  stage = Posted;
  low = page.low;
  high = page.high;
  right = page.right;
  level = level;
  count = listed_length page.listed;
  chain = Some (bare page);
}

abbrev pub table_of : List SlotValue → List ℕ → ℕ → TableValue
table_of slots free inserted =
    record {
      slots = slots;
      free = free;
      root = 2;
      book = record { inserted = inserted; removed = 0; modified = 0 };
      config = small_config;
    }

-- the keys 1 to 5 in two leaves under a root
abbrev pub two_leaves : TableValue
two_leaves = table_of
    (posted 0 (leaf 0 (Key 3) (Some 1) (1 ∷ 2 ∷ []))
    ∷ posted 0 (leaf 3 Top None (3 ∷ 4 ∷ 5 ∷ []))
    ∷ posted 1 (inner 0 Top None ((0, 0) ∷ (3, 1) ∷ []))
    ∷ [])
    []
    5

-- the keys 1 to 7 in three leaves under a root, and a free slot
abbrev pub three_leaves : TableValue
three_leaves = table_of
    (posted 0 (leaf 0 (Key 3) (Some 1) (1 ∷ 2 ∷ []))
    ∷ posted 0 (leaf 3 (Key 5) (Some 3) (3 ∷ 4 ∷ []))
    ∷ posted 1 (inner 0 Top None ((0, 0) ∷ (3, 1) ∷ (5, 3) ∷ []))
    ∷ posted 0 (leaf 5 Top None (5 ∷ 6 ∷ 7 ∷ []))
    ∷ free_slot 0
    ∷ [])
    (4 ∷ [])
    7

-- the pairs of the three leaves
abbrev pub seven_pairs : List (ℕ × ℕ)
seven_pairs = tens (1 ∷ 2 ∷ 3 ∷ 4 ∷ 5 ∷ 6 ∷ 7 ∷ [])

-- The page 1 of the three leaves is removed, its keys go to page 0, and
-- that is split: the new page has the id 4.
abbrev pub removal : List Proposal
removal =
    mark 1 0 2
    ∷ merge 0 0 1 1
    ∷ consolidate 0 1 (leaf 0 (Key 5) (Some 3) (1 ∷ 2 ∷ 3 ∷ 4 ∷ []))
    ∷ split 0 2 3 (leaf 3 (Key 5) (Some 3) (3 ∷ 4 ∷ []))
    ∷ term_add 2 0 4 1
    ∷ term_delete 2 0 1 2
    ∷ term_add 2 1 4 1
    ∷ []

-- the three leaves after the first n steps of the removal
abbrev pub removing : ℕ → TableValue
removing n = run three_leaves (take n removal)

-- the three leaves after the whole removal
abbrev pub removed : TableValue
removed = run three_leaves removal

-- the removal of the page 1 begins, and its parent is to be split at that page's low
abbrev pub split_at_leaving : List Proposal
split_at_leaving =
    consolidate 2 0 (inner 0 Top None ((0, 0) ∷ (3, 1) ∷ (5, 3) ∷ []))
    ∷ mark 1 0 2
    ∷ split 2 1 3 (inner 3 Top None ((3, 1) ∷ (5, 3) ∷ []))
    ∷ []

abbrev pub small_table : TableValue
small_table = new_table small_config

-- a new table whose slots have the last version
abbrev pub worn_table : TableValue
worn_table = new_table (record small_config { first_version = last_number })

-- a table grows from one leaf: page 1 takes the upper keys, and page 2 is the new root
abbrev pub growth : List Proposal
growth =
    insert 0 0 1 10
    ∷ insert 0 1 4 40
    ∷ consolidate 0 2 (leaf 0 Top None (1 ∷ 4 ∷ []))
    ∷ split 0 3 4 (leaf 4 Top None (4 ∷ []))
    ∷ grow 1 1 (inner 0 Top None ((0, 0) ∷ (4, 1) ∷ []))
    ∷ []

-- the table that grew
abbrev pub grown : TableValue
grown = run small_table growth
