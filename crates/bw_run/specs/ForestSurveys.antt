-- What a whole forest looks like: the leaves of its trees, each within its tree's range.
use Rattle.std.specs.Prelude.{◌≡◌, ℕ, ◌+◌, max, min, nat_lt, List, [], ◌∷◌, ◌++◌, Option, Some, None, map, sum_by, if◌then◌else◌}
use Rattle.std.specs.List.{filter_map}
use Rattle.bw_keys.specs.declared.range.Fence.{Fence}
use Rattle.bw_keys.specs.declared.range.Fence.TheVariants.{Key, Top}
use Rattle.bw_keys.specs.declared.range.Range.{Range}
use Rattle.bw_keys.specs.Ranges.{end_of, key_count}
use Rattle.bw_step.specs.declared.survey.Book.{Book}
use Rattle.bw_step.specs.declared.survey.Leaf.{Leaf}
use Rattle.bw_step.specs.declared.survey.Survey.{Survey}
use Rattle.bw_law.specs.Tables.{TableValue, outlines, slot_at}
use Rattle.bw_law.specs.Walks.{IsRowOf}
use Rattle.bw_table.specs.Views.{leaf_at}
use Rattle.bw_tree.specs.Stocks.{most}

-- the fence that comes first
abbrev pub lower_of : Fence → Fence → Fence
lower_of Top other = other
lower_of (Key end) Top = Key end
lower_of (Key end) (Key other_end) = Key (min end other_end)

-- what the leaf has of the range, if it has a key of it
abbrev pub cut_to : Range → Leaf → Option Leaf
cut_to range leaf =
    let low = max leaf.range.low range.low in
    let high = lower_of leaf.range.high range.high in
    let part = record leaf { range = record { low = low; high = high } } in
    if nat_lt low (end_of high) then Some part else None

-- what the table's leaves, in the order of their row, have of the range
pub record AreLeavesWithin (range : Range) (table : TableValue) (leaves : List Leaf) : Type 0 where
  pub row : List ℕ
  pub is_row : IsRowOf (outlines table.slots) key_count 0 row
  pub cut : leaves ≡ filter_map (cut_to range) (map (leaf_at table.slots) row)

-- those of the first tree, those of the second, and so on
abbrev pub AreLeavesInARow : List Range → List TableValue → List Leaf → Type 0
AreLeavesInARow [] [] leaves = leaves ≡ []
AreLeavesInARow (range ∷ ranges) (table ∷ tables) leaves =
    (own rest : List Leaf) × AreLeavesWithin range table own × AreLeavesInARow ranges tables rest
    × (leaves ≡ own ++ rest)
AreLeavesInARow ranges tables leaves = ⊥

-- what both books have, each number as far as it can be written
abbrev pub with_book : Book → Book → Book
with_book one other = record {
  inserted = min (one.inserted + other.inserted) most;
  removed = min (one.removed + other.removed) most;
  modified = min (one.modified + other.modified) most;
}

-- how many levels the tree has
abbrev pub levels_of : TableValue → ℕ
levels_of table = (slot_at table table.root).level + 1

-- those of the highest tree
abbrev pub most_levels : List TableValue → ℕ
most_levels [] = 0
most_levels (table ∷ tables) = max (levels_of table) (most_levels tables)

-- what the counts of all trees are together, as far as it can be written
abbrev pub capped_sum : (TableValue → ℕ) → List TableValue → ℕ
capped_sum count tables = min (sum_by count tables) most

-- the leaves of all trees, the levels of the highest one, and what their books have together
pub record IsForestSurvey (ranges : List Range) (tables : List TableValue)
    (survey : Survey) : Type 0 where
  pub leaves : AreLeavesInARow ranges tables survey.leaves.items
  pub levels : survey.levels ≡ most_levels tables
  pub inserted : survey.book.inserted ≡ capped_sum (λ table. table.book.inserted) tables
  pub removed : survey.book.removed ≡ capped_sum (λ table. table.book.removed) tables
  pub modified : survey.book.modified ≡ capped_sum (λ table. table.book.modified) tables
