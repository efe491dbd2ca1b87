use Rattle.std.proofs.Common.{◌≡◌, ◌≤◌, max, [], length, slice_index_or, ℕ}
use Rattle.bw_step.specs.Trails.{lists_of}
use Rattle.bw_texts.proofs.history.read.fill_up.Given as goal

abbrev pub invariant-loop : goal.invariant-loop
invariant-loop l = record {
  count : length l.trails.items ≡ l.counter;
  upto : l.counter ≤ max (length l.fn.trails.items) l.count;
  same : (worker : ℕ) → slice_index_or (lists_of l.trails.items) worker [] ≡ slice_index_or (lists_of l.fn.trails.items) worker [];
}
