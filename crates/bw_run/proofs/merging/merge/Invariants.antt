use Rattle.std.proofs.Common.{◌≡◌, ◌<◌, ◌++◌, ℕ, [], drop, get_or, length, map, take}
use Rattle.std.specs.List.{AllByRecursion}
use Rattle.bw_run.specs.Answers.{columns_of}
use Rattle.bw_run.specs.Rows.{acts_of, replies_to}
use Rattle.bw_run.proofs.merging.merge.Given as goal

abbrev pub invariant-loop-row : goal.invariant-loop-row
invariant-loop-row l = record {
  count : length l.merged.items ≡ l.row-index;
  workers : AllByRecursion (λ row. row.worker < length l.columns.items) (drop l.row-index l.rows);
  same : length l.columns.items ≡ length l.fn.answers.items;
  full : (worker : ℕ) → worker < length l.columns.items → length (get_or (map (λ column. column.rest.items) l.columns.items) worker []) ≡ length (acts_of worker (drop l.row-index l.rows));
  -- a worker's own replies so far, and those that are left
  own : (worker : ℕ) → worker < length l.columns.items
      → replies_to worker (take l.row-index l.rows) l.merged.items ++ get_or (map (λ column. column.rest.items) l.columns.items) worker []
      ≡ get_or (columns_of l.fn.answers.items) worker [];
}
