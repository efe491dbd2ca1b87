-- The one map of a forest's trees.
use Rattle.std.specs.Prelude.{◌≡◌, ◌↔◌, ℕ, ◌+◌, true, List, [], ◌∷◌, ◌++◌, ◌⊎◌, All, Option, Some, length, map, sum_by, refl}
use Rattle.std.specs.Coded.{Coded, code_by, coded×, coded_ℕ, coded_list}
use Rattle.bw_keys.specs.declared.config.Config.{Config}
use Rattle.bw_keys.specs.Limits.{usual_config}
use Rattle.bw_keys.specs.Ranges.{key_count}
use Rattle.bw_delta.specs.Entries.{at, rises}
use Rattle.bw_law.specs.Laws.{IsTheMap}
use Rattle.bw_law.specs.Tables.{TableValue, Maps, pair_count}
use Rattle.bw_table.specs.Codes.{table_code}
use Rattle.bw_tree.specs.Shares.{ShareValue, shared_in, sum_of}
use Rattle.bw_tree.specs.Trees.{IsTree}
use Rattle.bw_keys.specs.declared.range.Range.{Range}
use Rattle.bw_forest.specs.Bounds.{AreBounds, ranges_of}
use Rattle.bw_forest.specs.Plots.{PlotValue}
use Rattle.bw_tree.specs.Ranges.{LiesIn}

-- the ranges and the tables of trees
abbrev pub ranges_in : List PlotValue → List Range
ranges_in trees = map (λ tree. tree.range) trees

abbrev pub tables_of : List PlotValue → List TableValue
tables_of trees = map (λ tree. tree.table) trees

-- the configuration that the first of the tables was made by
abbrev pub config_of : List TableValue → Config
config_of [] = usual_config
config_of (table ∷ tables) = table.config

-- one configuration made all tables
abbrev pub AreAlike : List TableValue → Type 0
AreAlike tables = All (λ table. table.config ≡ config_of tables) tables

-- what the shares hold of each table's book
abbrev pub books_of : List TableValue → List ShareValue
books_of tables = map (λ table. shared_in table.book) tables

-- the tree's pairs lie in its range
abbrev pub HasPairsWithin : PlotValue → Type 0
HasPairsWithin tree = LiesIn tree.range tree.table.slots

-- what is true of a closed forest: its trees have the ranges that begin at the bounds, each has its
-- pairs in its own, and one configuration made all
pub record IsForest (bounds : List ℕ) (trees : List PlotValue) : Type 0 where
  pub are_bounds : AreBounds bounds
  pub ranges : ranges_in trees ≡ ranges_of bounds
  pub each : All IsTree (tables_of trees)
  pub within : All HasPairsWithin trees
  pub alike : AreAlike (tables_of trees)

-- what comes back of a forest that isn't closed: the same bounds, and as many trees, all made by
-- the configuration, each of which has its pairs in its range
pub record ComesApart (bounds : List ℕ) (made : Config) (given : List ℕ) (trees : List PlotValue)
    : Type 0 where
  pub same : given ≡ bounds
  pub count : length trees ≡ length bounds
  pub each : All IsTree (tables_of trees)
  pub within : All HasPairsWithin trees
  pub config : All (λ table. table.config ≡ made) (tables_of trees)

-- where the ranges begin, and the tables of their trees
pub record ForestValue : Type 0 where
  pub bounds : List ℕ
  pub tables : List TableValue

abbrev pub forest_code : Coded ForestValue
forest_code =
    code_by (List ℕ × List TableValue) (coded× (coded_list coded_ℕ) (coded_list table_code))
    (λ f. (f.bounds, f.tables)) (λ p. record { bounds = p.0; tables = p.1 }) (λ _. refl)

-- the map of one of the tables has the key, with the value
abbrev pub ForestMaps : List TableValue → ℕ → ℕ → Type 0
ForestMaps [] key value = ⊥
ForestMaps (table ∷ tables) key value = Maps table.slots key value ⊎ ForestMaps tables key value

-- the value that the forest's map has at the key, or none
abbrev pub IsForestValueAt : List TableValue → ℕ → Option ℕ → Type 0
IsForestValueAt tables key found =
    (value : ℕ) → (found ≡ Some value) ↔ ForestMaps tables key value

-- the pairs of the first table's map, those of the second's, and so on
abbrev pub AreInARow : List TableValue → List (ℕ × ℕ) → Type 0
AreInARow [] pairs = pairs ≡ []
AreInARow (table ∷ tables) pairs =
    (own rest : List (ℕ × ℕ))
    × IsTheMap table own × AreInARow tables rest × (pairs ≡ own ++ rest)

-- the trees' pairs in a row are the forest's map, and their keys rise strictly
pub record IsForestMap (tables : List TableValue) (pairs : List (ℕ × ℕ)) : Type 0 where
  pub in_a_row : AreInARow tables pairs
  pub rise : rises 0 key_count pairs ≡ true
  pub same : (key value : ℕ) → (at key pairs ≡ Some value) ↔ ForestMaps tables key value

abbrev pub HasForestMap : List TableValue → Type 0
HasForestMap tables = (pairs : List (ℕ × ℕ)) × IsForestMap tables pairs

-- how many pairs all trees have
abbrev pub pairs_of : List TableValue → ℕ
pairs_of tables = sum_by (λ table. pair_count table.slots) tables

-- A closed forest. Each tree is one, and made by the configuration; the trees' pairs in a row are
-- one map; the books together are the sum of all shares; and the pairs are as many as all workers
-- inserted, less those that they removed.
pub record IsClosedForest (made : Config) (shares : List ShareValue)
    (forest : ForestValue) : Type 0 where
  pub trees : All IsTree forest.tables
  pub config : All (λ table. table.config ≡ made) forest.tables
  pub one_map : HasForestMap forest.tables
  pub books : sum_of (map (λ table. shared_in table.book) forest.tables) ≡ sum_of shares
  pub pairs : pairs_of forest.tables + (sum_of shares).removed ≡ (sum_of shares).inserted
