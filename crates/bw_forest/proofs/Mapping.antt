-- The trees' pairs in a row are one map.
use Rattle.std.proofs.Common.{◌≡◌, ◌⊎◌, ◌↔◌, ℕ, zero, suc, ◌+◌, ◌<◌, ◌≤◌, true, List, [], ◌∷◌, ◌++◌, length, map, Option, Some, None, slice_get, refl, sym, ap, subst, ◌∙◌, append_assoc, append-nil, take, inl, inr, ⊎_elim, All, arith}
use Rattle.std.specs.Prelude.{slice_index, unwrap_or}
use Rattle.std.specs.List.Sorted.{IsStrictlyIncreasing}
use Rattle.std.proofs.lemmas.List.{take_all}
use Rattle.std.proofs.lemmas.List.Elements.{All-head, All-tail}
use Rattle.bw_keys.specs.declared.range.Range.{Range}
use Rattle.bw_keys.specs.Ranges.{Holds, end_of, key_count}
use Rattle.bw_delta.specs.Entries.{at, below, from, rises}
use Rattle.bw_delta.proofs.Rises.{below_all, from_all}
use Rattle.bw_law.specs.Laws.{IsTheMap}
use Rattle.bw_law.specs.Tables.{TableValue, Maps, joined_pairs}
use Rattle.bw_table.specs.Gets.{IsListing, IsMapAt}
use Rattle.bw_table.specs.Orders.{HasPairs}
use Rattle.bw_tree.specs.Trees.{IsTree}
use Rattle.bw_forest.specs.Bounds.{IsTreeOf, end_before, ranges_of}
use Rattle.bw_forest.specs.Forests.{AreInARow, ForestMaps, HasForestMap, HasPairsWithin, IsForest, IsForestMap, IsForestValueAt, ranges_in, tables_of}
use Rattle.bw_forest.specs.Plots.{PlotValue}
use Rattle.bw_tree.specs.Ranges.{LiesIn}
use Rattle.bw_forest.proofs.Joining.{at_left, at_right, rises_join}

-- each bound is below the next
abbrev Before : ℕ → List ℕ → Type 0
Before low [] = Unit {0}
Before low (next ∷ lows) = low < next

abbrev Ascend : List ℕ → Type 0
Ascend [] = Unit {0}
Ascend (low ∷ lows) = Before low lows × Ascend lows

rest_rise : (low : ℕ) (lows : List ℕ) → IsStrictlyIncreasing (low ∷ lows) → IsStrictlyIncreasing lows
rest_rise low lows rise k less =
    let same : suc k + 1 ≡ suc (k + 1) = omega arith in
    subst (λ j. slice_index lows k < slice_index (low ∷ lows) j) same (rise (suc k) (omega (arith, less)))

before : (low : ℕ) (lows : List ℕ) → IsStrictlyIncreasing (low ∷ lows) → Before low lows
before low [] rise = tt
before low (next ∷ lows) rise = rise 0 (omega arith)

pub ascend : (lows : List ℕ) → IsStrictlyIncreasing lows → Ascend lows
ascend [] rise = tt
ascend (low ∷ lows) rise = (before low lows rise, ascend lows (rest_rise low lows rise))

-- each table's pairs lie in the range with its number
abbrev LieIn : List Range → List TableValue → Type 0
LieIn [] [] = Unit {0}
LieIn [] (table ∷ tables) = ⊥
LieIn (range ∷ ranges) [] = ⊥
LieIn (range ∷ ranges) (table ∷ tables) = LiesIn range table.slots × LieIn ranges tables

lie_in_own : (trees : List PlotValue) → All HasPairsWithin trees → LieIn (ranges_in trees) (tables_of trees)
lie_in_own [] all = tt
lie_in_own (tree ∷ trees) all = (All-head HasPairsWithin tree trees all, lie_in_own trees (All-tail HasPairsWithin tree trees all))

pub lie_in : (bounds : List ℕ) (trees : List PlotValue) → IsForest bounds trees → LieIn (ranges_of bounds) (tables_of trees)
lie_in bounds trees forest = subst (λ ranges. LieIn ranges (tables_of trees)) forest.ranges (lie_in_own trees forest.within)

-- the map of the trees behind a range begins where that ends
starts_from : (lows : List ℕ) (tables : List TableValue) → Ascend lows → LieIn (ranges_of lows) tables
    → (key value : ℕ) → ForestMaps tables key value → end_of (end_before lows) ≤ key
starts_from [] [] up lie key value maps = absurd maps
starts_from [] (table ∷ tables) up lie key value maps = absurd lie
starts_from (low ∷ lows) [] up lie key value maps = absurd maps
starts_from (low ∷ lows) (table ∷ tables) up lie key value maps = ⊎_elim
    (λ (own : Maps table.slots key value). (lie.0 key value own).0)
    (λ (later : ForestMaps tables key value). further lows tables up lie.1 (starts_from lows tables up.1 lie.1 key value later) later)
    maps
  where
    further : (lows : List ℕ) (tables : List TableValue) → Ascend (low ∷ lows) → LieIn (ranges_of lows) tables
        → end_of (end_before lows) ≤ key
        → ForestMaps tables key value → low ≤ key
    further [] [] up lie from maps = absurd maps
    further [] (table ∷ tables) up lie from maps = absurd lie
    further (next ∷ lows) tables up lie from maps = let less = up.0 in omega (arith, less, from)

-- a key of a tree is below each of the trees behind it
apart : (low : ℕ) (lows : List ℕ) (table : TableValue) (tables : List TableValue) → Ascend (low ∷ lows)
    → LieIn (ranges_of (low ∷ lows)) (table ∷ tables)
    → (k v j w : ℕ) → Maps table.slots k v → ForestMaps tables j w → k < j
apart low lows table tables up lie k v j w own later =
    let below = (lie.0 k v own).1 in
    let from = starts_from lows tables up.1 lie.1 j w later in
    omega (arith, below, from)

-- the rows of the trees' pairs
pub some_row : (tables : List TableValue) → All IsTree tables → (pairs : List (ℕ × ℕ)) × AreInARow tables pairs
some_row [] all = ([], refl)
some_row (table ∷ tables) all =
    let tree = All-head IsTree table tables all in
    let rest = some_row tables (All-tail IsTree table tables all) in
    let own = joined_pairs table.slots tree.leaves.row in
    (own ++ rest.0, (own, rest.0, tree.map, rest.1, refl))

abbrev SameAs : List TableValue → List (ℕ × ℕ) → Type 0
SameAs tables pairs = (key value : ℕ) → (at key pairs ≡ Some value) ↔ ForestMaps tables key value

module _ (table : TableValue) (tables : List TableValue) (own rest : List (ℕ × ℕ)) (is : IsTheMap table own) (are : SameAs tables rest)
    (below : (k v j w : ℕ) → Maps table.slots k v → ForestMaps tables j w → k < j) (key value : ℕ) where
  to_maps : (found : Option ℕ) → at key own ≡ found → at key (own ++ rest) ≡ Some value
      → Maps table.slots key value ⊎ ForestMaps tables key value
  to_maps (Some other) here there = inl ((is.same key value).0 (here ∙ sym (at_left key other own rest here) ∙ there))
  to_maps None here there = inr ((are key value).0 (sym (at_right key own rest here) ∙ there))

  from_later : (found : Option ℕ) → at key own ≡ found → ForestMaps tables key value → at key (own ++ rest) ≡ Some value
  from_later (Some other) here maps = let less = below key other key value ((is.same key other).0 here) maps in absurd (omega (arith, less))
  from_later None here maps = at_right key own rest here ∙ (are key value).1 maps

  same_here : (at key (own ++ rest) ≡ Some value) ↔ ForestMaps (table ∷ tables) key value
  same_here = (
    to_maps (at key own) refl,
    λ maps. ⊎_elim
        (λ (here : Maps table.slots key value). at_left key value own rest ((is.same key value).1 here))
        (λ (later : ForestMaps tables key value). from_later (at key own) refl later)
        maps,
  )

row_law : (lows : List ℕ) (tables : List TableValue) (pairs : List (ℕ × ℕ)) → Ascend lows → LieIn (ranges_of lows) tables
    → AreInARow tables pairs
    → (rises 0 key_count pairs ≡ true) × SameAs tables pairs
row_law [] [] pairs up lie row = rw row (refl, λ key value. (λ found. absurd (cc (found)), λ maps. absurd maps))
row_law [] (table ∷ tables) pairs up lie row = absurd lie
row_law (low ∷ lows) [] pairs up lie row = absurd lie
row_law (low ∷ lows) (table ∷ tables) pairs up lie (own, rest, is, behind, joined) =
    let later = row_law lows tables rest up.1 lie.1 behind in
    let below = apart low lows table tables up lie in
    rw joined (
      rises_join 0 key_count own rest is.rise later.0
          (λ k v j w one other. below k v j w ((is.same k v).0 one) ((later.1 j w).0 other)),
      same_here table tables own rest is later.1 below,
    )

-- the trees' pairs in a row are the map of the forest
pub forest_map : (bounds : List ℕ) (trees : List PlotValue) → IsStrictlyIncreasing bounds → IsForest bounds trees
    → (pairs : List (ℕ × ℕ)) → AreInARow (tables_of trees) pairs → IsForestMap (tables_of trees) pairs
forest_map bounds trees rise forest pairs row =
    let it = row_law bounds (tables_of trees) pairs (ascend bounds rise) (lie_in bounds trees forest) row in
    record { in_a_row = row; rise = it.0; same = it.1 }

pub has_map : (bounds : List ℕ) (trees : List PlotValue) → IsStrictlyIncreasing bounds → IsForest bounds trees
    → HasForestMap (tables_of trees)
has_map bounds trees rise forest =
    let row = some_row (tables_of trees) forest.each in
    (row.0, forest_map bounds trees rise forest row.0 row.1)

-- a value of a tree's map is one of the forest's
in_forest : (tables : List TableValue) (tree : ℕ) (table : TableValue) → slice_get tables tree ≡ Some table
    → (key value : ℕ) → Maps table.slots key value → ForestMaps tables key value
in_forest [] tree table is key value maps = absurd (cc (is))
in_forest (t ∷ ts) zero table is key value maps =
    let same : t ≡ table = ap (λ (o : Option TableValue). unwrap_or o t) is in
    inl (subst (λ (x : TableValue). Maps x.slots key value) (sym same) maps)
in_forest (t ∷ ts) (suc n) table is key value maps = inr (in_forest ts n table is key value maps)

its_range : (low : ℕ) (lows : List ℕ) (key : ℕ) → IsTreeOf (low ∷ lows) key 0 → Holds (record { low = low; high = end_before lows }) key
its_range low lows key of =
    let own : Range = record { low = low; high = end_before lows } in
    let same : own ≡ of.0 = ap (λ (o : Option Range). unwrap_or o own) of.1 in
    subst (λ (range : Range). Holds range key) (sym same) of.2

-- a tree that holds the key begins at or below it, and so do those before it
tree_from : (lows : List ℕ) (key tree : ℕ) → Ascend lows → IsTreeOf lows key tree → end_of (end_before lows) ≤ key
tree_from [] key tree up of = absurd (cc (of.1))
tree_from (low ∷ lows) key zero up of = (its_range low lows key of).0
tree_from (low ∷ []) key (suc n) up of = absurd (cc (of.1))
tree_from (low ∷ next ∷ lows) key (suc n) up of =
    let from = tree_from (next ∷ lows) key n up.1 of in
    let less = up.0 in
    omega (arith, from, less)

-- the forest's value at a key is the one of the tree whose range holds it
only_tree : (lows : List ℕ) (tables : List TableValue) (tree key : ℕ) → Ascend lows → LieIn (ranges_of lows) tables → IsTreeOf lows key tree
    → (table : TableValue) → slice_get tables tree ≡ Some table → (value : ℕ) → ForestMaps tables key value → Maps table.slots key value
only_tree [] tables tree key up lie of table is value maps = absurd (cc (of.1))
only_tree (low ∷ lows) [] tree key up lie of table is value maps = absurd lie
only_tree (low ∷ lows) (t ∷ ts) zero key up lie of table is value maps =
    let same : t ≡ table = ap (λ (o : Option TableValue). unwrap_or o t) is in
    ⊎_elim
    (λ (own : Maps t.slots key value). subst (λ (x : TableValue). Maps x.slots key value) same own)
    (λ (later : ForestMaps ts key value).
    let from = starts_from lows ts up.1 lie.1 key value later in
    let below = (its_range low lows key of).1 in
    absurd (omega (arith, from, below)))
    maps
only_tree (low ∷ lows) (t ∷ ts) (suc n) key up lie of table is value maps = ⊎_elim
    (λ (own : Maps t.slots key value).
    let from = tree_from lows key n up.1 of in
    let below = (lie.0 key value own).1 in
    absurd (omega (arith, from, below)))
    (λ (later : ForestMaps ts key value). only_tree lows ts n key up.1 lie.1 of table is value later)
    maps

pub value_at : (bounds : List ℕ) (trees : List PlotValue) → IsStrictlyIncreasing bounds → IsForest bounds trees
    → (key tree : ℕ) → IsTreeOf bounds key tree → (table : TableValue) → slice_get (tables_of trees) tree ≡ Some table
    → (found : Option ℕ) → IsMapAt table key found → IsForestValueAt (tables_of trees) key found
value_at bounds trees rise forest key tree of table is found at_key value = (
  λ has. in_forest (tables_of trees) tree table is key value ((at_key value).0 has),
  λ maps. (at_key value).1
      (only_tree bounds (tables_of trees) tree key (ascend bounds rise) (lie_in bounds trees forest) of table is value maps),
)

-- a table's listing with room for all its pairs is its map
pub listing_is_map : (table : TableValue) (n : ℕ) (listed : List (ℕ × ℕ)) → HasPairs table n → IsListing table 0 key_count n listed
    → IsTheMap table listed
listing_is_map table n listed count is =
    let all : below key_count (from 0 is.pairs) ≡ is.pairs =
    ap (below key_count) (from_all key_count 0 0 is.pairs (omega arith) is.map.rise) ∙ below_all 0 key_count is.pairs is.map.rise in
    let few : length is.pairs ≤ n = let it = count is.pairs is.map in omega (arith, it) in
    let whole : listed ≡ is.pairs = is.first ∙ ap (take n) all ∙ take_all n is.pairs few in
    subst (IsTheMap table) (sym whole) is.map

-- the pairs of one table more, behind the others
pub in_a_row_more : (tables : List TableValue) (pairs : List (ℕ × ℕ)) (table : TableValue) (own : List (ℕ × ℕ)) → AreInARow tables pairs
    → IsTheMap table own
    → AreInARow (tables ++ table ∷ []) (pairs ++ own)
in_a_row_more [] pairs table own row is = rw row (own, [], is, refl, sym (append-nil own))
in_a_row_more (t ∷ ts) pairs table own (first, rest, map, behind, joined) is =
    (first, rest ++ own, map, in_a_row_more ts rest table own behind is, ap (λ list. list ++ own) joined ∙ append_assoc first rest own)
