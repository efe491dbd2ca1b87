use Rattle.std.proofs.Common.{◌≡◌, ◌+◌, ◌<◌, drop, length, take}
use Rattle.bw_run.specs.Rows.{acts_of}
use Rattle.bw_run.proofs.stopping.row_number.Given as goal

abbrev pub invariant-loop-place : goal.invariant-loop-place
invariant-loop-place l = record {
  before : length (acts_of l.worker (take l.place l.rows)) + l.left ≡ l.before;
  behind : l.left < length (acts_of l.worker (drop l.place l.rows));
}
