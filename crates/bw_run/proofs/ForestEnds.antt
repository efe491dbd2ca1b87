-- What the parts of a run on a forest say of the whole.
use Rattle.std.proofs.Common.{◌≡◌, ℕ, ◌+◌, ◌<◌, ◌≤◌, List, [], ◌∷◌, ◌++◌, get_or, map, Vec, Global, refl, ap, sym, subst, ◌∙◌, arith}
use Rattle.std.specs.Prelude.{All, length, slice_index_or, sum_by}
use Rattle.std.proofs.lemmas.List.{length-map}
use Rattle.std.proofs.lemmas.List.Sums.{sum_by-cons}
use Rattle.bw_keys.specs.declared.config.Config.{Config}
use Rattle.bw_step.specs.declared.receipt.Receipt.{Receipt}
use Rattle.bw_step.specs.Trails.{lists_of}
use Rattle.bw_law.specs.Tables.{TableValue}
use Rattle.bw_tree.specs.Shares.{ShareValue, share_of, sum_of}
use Rattle.bw_forest.specs.Forests.{ForestValue, IsClosedForest, pairs_of, ranges_in}
use Rattle.bw_forest.specs.Plots.{PlotValue}
use Rattle.bw_forest.specs.Bounds.{ranges_of}
use Rattle.bw_procedures.specs.declared.act.Act.{Act}
use Rattle.bw_procedures.specs.declared.reply.Reply.{Reply}
use Rattle.bw_texts.specs.declared.trace.row.Row.{Row}
use Rattle.bw_crew.specs.Workers.{share_by}
use Rattle.nifforan_forest.specs.declared.fault.ShareForestFault.{ShareForestFault}
use Rattle.nifforan_forest.specs.declared.fault.ShareForestFault.TheVariants as share
use Rattle.nifforan_forest.specs.declared.returned.Returned.{Returned}
use Rattle.nifforan_forest.specs.Workers.{trails_of}
use Rattle.bw_run.specs.declared.fault.RunFault.{RunFault}
use Rattle.bw_run.specs.declared.fault.RunFault.TheVariants.{Config as BadConfig, Workers, Threads, Memory, Stopped, TreeAudit}
use Rattle.bw_run.specs.Faults.{IsCrewFault}
use Rattle.bw_run.specs.ForestAnswers.{ToldBy}
use Rattle.bw_run.specs.ForestFaults.{EndsForest, IsForestRunFault, MayRunForest, NamesFirstBad}
use Rattle.bw_run.specs.ForestRuns.{by_trees, in_a_row}
use Rattle.bw_run.proofs.ForestColumns.{Have, each_by_trees, length_by_trees, row_of, sum_by_trees}
use Rattle.bw_run.proofs.ForestLeaves.{read_many}
use Rattle.bw_run.proofs.ForestDone.{all_map, all_of_map}

-- a fault of the crew is one of the run
pub crew_in_forest_run : (config : Config) (workers trees : ℕ) (rows : List Row) (fault : RunFault)
    → IsCrewFault config workers fault → IsForestRunFault config workers trees rows fault
crew_in_forest_run config workers trees rows (BadConfig bad) is = is
crew_in_forest_run config workers trees rows Workers is = is
crew_in_forest_run config workers trees rows fault is = absurd is

module _ (rows : List Row) (tables : List TableValue) (trails : List (List (List Receipt))) where
  pub bad_ends : (workers : ℕ) (fault : RunFault) → NamesFirstBad tables trails fault → EndsForest workers rows tables trails fault
  bad_ends workers Memory bad = tt
  bad_ends workers (TreeAudit tree worker receipt) bad = bad
  bad_ends workers fault bad = absurd bad

  -- a run that began ended so
  pub forest_ends : (config : Config) (workers trees n : ℕ) (fault : RunFault) → n ≡ workers
      → MayRunForest config workers trees → length trails ≤ trees → All (λ its. length its ≡ n) trails
      → EndsForest n rows tables trails fault → IsForestRunFault config workers trees rows fault
  forest_ends config workers trees n Threads many made few each ends = made
  forest_ends config workers trees n Memory many made few each ends = made
  forest_ends config workers trees n (Stopped worker number fault) many made few each ends =
      (made, subst (λ k. worker < k) many ends.0, ends.1)
  forest_ends config workers trees n (TreeAudit tree worker receipt) many made few each ends = (
    made,
    record {
      tables = tables;
      trails = trails;
      few = few;
      each = subst (λ k. All (λ its. length its ≡ k) trails) many each;
      first = ends;
    },
  )
  forest_ends config workers trees n fault many made few each ends = absurd ends

-- a closed forest counts what shares have together, whichever they are
pub closed_same : (made : Config) (shares others : List ShareValue) (forest : ForestValue) → sum_of shares ≡ sum_of others
    → IsClosedForest made others forest → IsClosedForest made shares forest
closed_same made shares others forest same closed = record {
  trees = closed.trees;
  config = closed.config;
  one_map = closed.one_map;
  books = closed.books ∙ sym same;
  pairs = subst (λ (s : ShareValue). pairs_of forest.tables + s.removed ≡ s.inserted) (sym same) closed.pairs;
}

-- all trails of all workers, in a row
pub trails_in_rows : {O L : Type 0} → (added : L → List Receipt) (workers : List (Returned O L))
    → trails_of added workers ≡ in_a_row (map (λ it. map added it.trails.items) workers)
trails_in_rows added [] = refl
trails_in_rows added (it ∷ workers) = ap (λ (rest : List (List Receipt)). map added it.trails.items ++ rest)
    (trails_in_rows added workers)

sum_map : {X Y : Type 0} → (f : Y → ℕ) (g : X → Y) (xs : List X) → sum_by f (map g xs) ≡ sum_by (λ x. f (g x)) xs
sum_map f g [] = refl
sum_map f g (x ∷ xs) = omega (arith, sum_map f g xs, sum_by-cons f (g x) (map g xs), sum_by-cons (λ it. f (g it)) x xs)

-- the shares by trees are together what those by workers are
pub same_shares : (n : ℕ) (rows : List (List (List Receipt))) → Have n rows
    → sum_of (map share_by (in_a_row (by_trees n rows))) ≡ sum_of (map share_by (in_a_row rows))
same_shares n rows have =
    let trees = in_a_row (by_trees n rows) in
    let workers = in_a_row rows in
    let inserted = sum_map (λ (s : ShareValue). s.inserted) share_by trees
    ∙ (sum_by_trees (λ trail. (share_by trail).inserted) n rows have ∙ sym (sum_map (λ (s : ShareValue). s.inserted) share_by workers))
    in
    let removed = sum_map (λ (s : ShareValue). s.removed) share_by trees
    ∙ (sum_by_trees (λ trail. (share_by trail).removed) n rows have ∙ sym (sum_map (λ (s : ShareValue). s.removed) share_by workers)) in
    (λ j. share_of (inserted j) (removed j))

length_ranges : (bounds : List ℕ) → length (ranges_of bounds) ≡ length bounds
length_ranges [] = refl
length_ranges (low ∷ lows) = let it = length_ranges lows in omega (arith, it)

-- there is a tree for each bound
pub as_many : (bounds : List ℕ) (trees : List PlotValue) → ranges_in trees ≡ ranges_of bounds → length trees ≡ length bounds
as_many bounds trees same = read_many (λ (tree : PlotValue). tree.range) trees (ranges_of bounds) same ∙ length_ranges bounds

module _ {O : Type 0} (n : ℕ) (workers : List (Returned O (Vec Receipt Global))) where
  -- each worker's trails, tree by tree
  abbrev pub rows_of : List (List (List Receipt))
  rows_of = map (λ it. lists_of it.trails.items) workers

  pub have_trails : All (λ it. length it.trails.items ≡ n) workers → Have n rows_of
  have_trails all =
      all_map (λ (row : List (List Receipt)). length row ≡ n) (λ it. lists_of it.trails.items) workers
      (λ k d inside. length-map (get_or workers k d).trails.items (λ trail. trail.items) ∙ all k d inside)

  module _ (sorted : List (Vec (Vec Receipt Global) Global)) where
    -- the trails are sorted by the trees
    abbrev pub AreSorted : Type 0
    AreSorted = map (λ its. lists_of its.items) sorted ≡ by_trees n rows_of

    pub many_sorted : AreSorted → length sorted ≡ n
    many_sorted same = sym (length-map sorted (λ its. lists_of its.items)) ∙ (ap length same ∙ length_by_trees n rows_of)

    pub each_sorted : All (λ it. length it.trails.items ≡ n) workers → AreSorted → All (λ its. length its.items ≡ length workers) sorted
    each_sorted all same =
        let columns = subst (λ (lists : List (List (List Receipt))). Have (length rows_of) lists) (sym same)
        (each_by_trees n rows_of (have_trails all)) in
        let each = all_of_map (λ (list : List (List Receipt)). length list ≡ length rows_of)
        (λ its. lists_of its.items) sorted columns in
        λ k d inside. sym (length-map (get_or sorted k d).items (λ trail. trail.items))
        ∙ (each k d inside ∙ length-map workers (λ it. lists_of it.trails.items))

    pub shares_sorted : Have n rows_of → AreSorted → sum_of (map share_by (in_a_row (map (λ its. lists_of its.items) sorted))) ≡ sum_of
        (map share_by (in_a_row rows_of))
    shares_sorted have same = ap (λ (lists : List (List (List Receipt))). sum_of (map share_by (in_a_row lists))) same
        ∙ same_shares n rows_of have

    -- what a worker's trails tell, they tell as they are sorted
    pub told_sorted : Have n rows_of → AreSorted → (worker : ℕ) → worker < length workers
        → (bounds : List ℕ) (acts : List Act) (replies column : List Reply) → replies ≡ column
        → ToldBy bounds acts column (get_or rows_of worker []) → ToldBy bounds acts replies
        (map (λ its. slice_index_or its worker []) (map (λ its. lists_of its.items) sorted))
    told_sorted have same worker inside bounds acts replies column own tells =
        let many : length rows_of ≡ length workers = length-map workers (λ it. lists_of it.trails.items) in
        let row = ap (λ (lists : List (List (List Receipt))). map (λ its. get_or its worker []) lists) same
        ∙ row_of [] n rows_of worker have (omega (arith, many, inside)) in
        subst (λ (rs : List Reply). ToldBy bounds acts rs (map (λ its. slice_index_or its worker [])
        (map (λ its. lists_of its.items) sorted))) (sym own)
        (subst (λ (ts : List (List Receipt)). ToldBy bounds acts column ts) (sym row) tells)
