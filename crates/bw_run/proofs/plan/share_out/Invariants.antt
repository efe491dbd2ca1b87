use Rattle.std.proofs.Common.{◌≡◌, ◌<◌, ◌++◌, ℕ, [], drop, get_or, length, map}
use Rattle.std.specs.List.{AllByRecursion}
use Rattle.bw_run.specs.Rows.{acts_of}
use Rattle.bw_run.proofs.plan.share_out.Given as goal

abbrev pub invariant-loop-row : goal.invariant-loop-row
invariant-loop-row l = record {
  count : length l.plan.items ≡ l.workers;
  own : AllByRecursion (λ row. row.worker < l.workers) (drop l.row-index l.rows);
  -- what a worker has so far, and what its rows to come ask for
  planned : (worker : ℕ) → get_or (map (λ acts. acts.items) l.plan.items) worker [] ++ acts_of worker (drop l.row-index l.rows) ≡ acts_of worker l.rows;
}
