-- What a run on a forest that came to its end leaves.
use Rattle.std.specs.Prelude.{◌≡◌, ℕ, ◌<◌, List, [], ◌∷◌, ◌++◌, map, replicate, slice_get, slice_index_or, Some}
use Rattle.bw_delta.specs.declared.fault.NoMemory.{NoMemory}
use Rattle.bw_step.specs.declared.receipt.Receipt.{Receipt}
use Rattle.bw_step.specs.Trails.{lists_of}
use Rattle.bw_law.specs.Tables.{TableValue}
use Rattle.bw_table.specs.Views.{ArePairsOf}
use Rattle.bw_tree.specs.Shares.{ShareValue}
use Rattle.bw_audit.specs.Legal.{IsLegal}
use Rattle.bw_crew.specs.Workers.{share_by}
use Rattle.bw_procedures.specs.declared.act.Act.{Act}
use Rattle.bw_texts.specs.declared.trace.row.Row.{Row}
use Rattle.bw_run.specs.declared.forest.ending.FinishedForest.{FinishedForest}
use Rattle.bw_run.specs.ForestAnswers.{ToldBy}
use Rattle.bw_run.specs.Rows.{acts_of, replies_to}

-- at each tree the trails of all workers
abbrev pub trails_at : FinishedForest → List (List (List Receipt))
trails_at finished = map (λ its. lists_of its.items) finished.trails.items

-- all lists in a row
abbrev pub in_a_row : {T : Type 0} → List (List T) → List T
in_a_row [] = []
in_a_row (list ∷ lists) = list ++ in_a_row lists

-- the shares of all trails, tree by tree
abbrev pub shares_at : FinishedForest → List ShareValue
shares_at finished = map share_by (in_a_row (trails_at finished))

-- one item of each list, at its end or before it
abbrev pub with_last : {T : Type 0} → List T → List (List T) → List (List T)
with_last [] lists = lists
with_last (x ∷ xs) [] = []
with_last (x ∷ xs) (list ∷ lists) = (list ++ x ∷ []) ∷ with_last xs lists

abbrev pub with_first : {T : Type 0} → List T → List (List T) → List (List T)
with_first [] lists = lists
with_first (x ∷ xs) [] = []
with_first (x ∷ xs) (list ∷ lists) = (x ∷ list) ∷ with_first xs lists

-- The rows of a table of so many columns as its columns: of each worker's items, tree by tree, at
-- each tree those of all workers.
abbrev pub by_trees : {T : Type 0} → ℕ → List (List T) → List (List T)
by_trees trees [] = replicate trees []
by_trees trees (row ∷ rows) = with_first row (by_trees trees rows)

-- the trails are a legal history with the pairs that the table has
abbrev pub IsLegalAt : TableValue → List (List Receipt) → Type 0
IsLegalAt table trails =
    (pairs : List (ℕ × ℕ)) → ArePairsOf table pairs → IsLegal trails pairs

-- each tree's history is legal: the trails of all workers there, with its own pairs
abbrev pub EachIsLegal : List TableValue → List (List (List Receipt)) → Type 0
EachIsLegal tables trails =
    (tree : ℕ) (table : TableValue) → slice_get tables tree ≡ Some table
    → IsLegalAt table (slice_index_or trails tree [])

-- a worker's trail at each tree
abbrev pub trails_by : ℕ → FinishedForest → List (List Receipt)
trails_by worker finished = map (λ its. slice_index_or its worker []) (trails_at finished)

-- each worker's trails tell, row by row, what goes with its rows and the replies to them, each at
-- the tree whose range holds its key
abbrev pub TellsByTrees : ℕ → List Row → FinishedForest → Type 0
TellsByTrees workers rows finished =
    (worker : ℕ) → worker < workers
    → ToldBy finished.forest.bounds (acts_of worker rows)
    (replies_to worker rows finished.replies.items) (trails_by worker finished)
