-- A table in numbers.
use Rattle.std.specs.Prelude.{◌≡◌, ℕ, ◌+◌, ◌-◌, ◌^◌, ◌==◌, ◌&&◌, not, Bool, true, false, List, length, map, filter, count_by, sum, sum_by, min, max, unwrap_or, option_map}
use Rattle.std.specs.List.{range_with_len, reduce}
use Rattle.bw_delta.specs.Pages.{listed_length}
use Rattle.bw_delta.specs.Records.{Records, bare, above, merged}
use Rattle.bw_step.specs.declared.view.Stage.{Stage}
use Rattle.bw_step.specs.declared.view.Stage.TheVariants.{Free, Unposted, Posted, Marked, Merged}
use Rattle.bw_step.specs.Stages.{is_in_row}
use Rattle.bw_law.specs.Slots.{is_free, is_unposted, is_marked, is_merged, is_plainly_posted}
use Rattle.bw_law.specs.Tables.{TableValue, slot_at, pair_count}
use Rattle.bw_draw.specs.declared.page.Page.{Page}
use Rattle.bw_draw.specs.declared.stats.Stats.{Stats}
use Rattle.bw_draw.specs.declared.stats.spread.Spread.{Spread}
use Rattle.bw_draw.specs.Pictures.{pages_of}

-- a number, or the greatest one of 64 bits where it is greater
abbrev pub capped : ℕ → ℕ
capped n = min n (2 ^ 64 - 1)

-- how many of the slots below the end have no page
abbrev pub free_below : TableValue → ℕ → ℕ
free_below table end = count_by (λ page. is_free (slot_at table page).stage) (range_with_len 0 end)

abbrev pub is_in_a_row : Page → Bool
is_in_a_row page = is_in_row page.view.stage

-- a leaf in its row, or an inner page in its row
abbrev pub is_of_kind : Bool → Page → Bool
is_of_kind true page = is_in_a_row page && page.view.level == 0
is_of_kind false page = is_in_a_row page && not (page.view.level == 0)

-- a page in the row of the level
abbrev pub is_on : ℕ → Page → Bool
is_on level page = is_in_a_row page && page.view.level == level

abbrev pub pages_on : List Page → ℕ → ℕ
pages_on pages level = count_by (is_on level) pages

-- the sizes of the rows, from the leaves up to the root's level
abbrev pub levels_of : List Page → ℕ → List ℕ
levels_of pages root = map (pages_on pages) (range_with_len 0 (root + 1))

abbrev pub is_same_stage : Stage → Stage → Bool
is_same_stage Free stage = is_free stage
is_same_stage Unposted stage = is_unposted stage
is_same_stage Posted stage = is_plainly_posted stage
is_same_stage Marked stage = is_marked stage
is_same_stage Merged stage = is_merged stage

abbrev pub is_at : Stage → Page → Bool
is_at stage page = is_same_stage stage page.view.stage

abbrev pub count_of : Page → ℕ
count_of page = page.view.count

abbrev pub depth_of : Page → ℕ
depth_of page = page.view.depth

-- the numbers of entries of the leaves in their row, or of the inner pages in theirs
abbrev pub counts_of : Bool → List Page → List ℕ
counts_of leaves pages = map count_of (filter (is_of_kind leaves) pages)

-- the numbers of records of the pages in rows
abbrev pub depths_of : List Page → List ℕ
depths_of pages = map depth_of (filter is_in_a_row pages)

-- how many entries the bases of a chain list
abbrev pub entries_stored : Records → ℕ
entries_stored (bare page) = listed_length page.listed
entries_stored (above delta chain) = entries_stored chain
entries_stored (merged merging left right) = entries_stored left + entries_stored right

-- how many links stand below the newest one
abbrev pub links_below : Records → ℕ
links_below (bare page) = 0
links_below (above delta chain) = links_below chain + 1
links_below (merged merging left right) = links_below left + links_below right + 2

abbrev pub entries_of : Page → ℕ
entries_of page = unwrap_or (option_map entries_stored page.chain) 0

abbrev pub links_of : Page → ℕ
links_of page = unwrap_or (option_map links_below page.chain) 0

-- the least of the numbers, 0 where there is none
abbrev pub least : List ℕ → ℕ
least numbers = unwrap_or (reduce min numbers) 0

-- the greatest of the numbers, 0 where there is none
abbrev pub greatest : List ℕ → ℕ
greatest numbers = unwrap_or (reduce max numbers) 0

pub record IsSpreadOf (numbers : List ℕ) (spread : Spread) : Type 0 where
  pub count : spread.count ≡ length numbers
  pub sum : spread.sum ≡ capped (sum numbers)
  pub least : spread.least ≡ least numbers
  pub greatest : spread.greatest ≡ greatest numbers

-- the numbers are those of the table's pages and slots
pub record IsStatsOf (table : TableValue) (stats : Stats) : Type 0 where
  pub levels : stats.levels.items ≡ levels_of (pages_of table) (slot_at table table.root).level
  pub pairs : stats.pairs ≡ pair_count table.slots
  pub slots : stats.slots ≡ table.config.pages
  pub free : stats.free ≡ free_below table table.config.pages
  pub unposted : stats.unposted ≡ count_by (is_at Unposted) (pages_of table)
  pub marked : stats.marked ≡ count_by (is_at Marked) (pages_of table)
  pub merged : stats.merged ≡ count_by (is_at Merged) (pages_of table)
  pub leaves : IsSpreadOf (counts_of true (pages_of table)) stats.leaves
  pub inner : IsSpreadOf (counts_of false (pages_of table)) stats.inner
  pub records : IsSpreadOf (depths_of (pages_of table)) stats.records
  pub stored : stats.stored ≡ capped (sum_by entries_of (pages_of table))
  pub links : stats.links ≡ capped (sum_by links_of (pages_of table))
