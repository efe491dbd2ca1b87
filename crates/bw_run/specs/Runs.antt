-- What a run that came to its end leaves.
use Rattle.std.specs.Prelude.{◌≡◌, ℕ, ◌<◌, List, [], length, slice_index_or}
use Rattle.bw_step.specs.Tellings.{reported_in}
use Rattle.bw_step.specs.Trails.{lists_of}
use Rattle.bw_table.specs.Views.{ArePairsOf}
use Rattle.bw_tree.specs.Trees.{IsTree, CountsPairs}
use Rattle.bw_audit.specs.Legal.{IsLegal}
use Rattle.bw_procedures.specs.Reported.{GoWith}
use Rattle.bw_texts.specs.declared.trace.row.Row.{Row}
use Rattle.bw_crew.specs.Workers.{changes_in}
use Rattle.bw_run.specs.declared.ending.Finished.{Finished}
use Rattle.bw_run.specs.Rows.{acts_of, replies_to}

-- each worker's trail reports what goes with its rows and the replies to them
abbrev pub TellsItsReplies : ℕ → List Row → Finished → Type 0
TellsItsReplies workers rows finished =
    (worker : ℕ) → worker < workers → GoWith (acts_of worker rows) (replies_to worker rows finished.replies.items) (reported_in (slice_index_or (lists_of finished.trails.items) worker []))

-- the trails are a legal history with the pairs that the table has
abbrev pub IsLegalRun : Finished → Type 0
IsLegalRun finished = (pairs : List (ℕ × ℕ)) → ArePairsOf finished.table pairs → IsLegal (lists_of finished.trails.items) pairs

-- the replies and the trails are of the rows, and the trails explain the table
pub record IsRunOf (workers : ℕ) (rows : List Row) (finished : Finished) : Type 0 where
  pub replied : length finished.replies.items ≡ length rows
  pub trailed : length finished.trails.items ≡ workers
  pub reported : TellsItsReplies workers rows finished
  pub tree : IsTree finished.table
  pub legal : IsLegalRun finished
  pub count : CountsPairs finished.table (changes_in (lists_of finished.trails.items))
