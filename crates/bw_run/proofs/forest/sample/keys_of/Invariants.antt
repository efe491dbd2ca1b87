use Rattle.std.proofs.Common.{◌≡◌, take}
use Rattle.bw_run.specs.Rows.{keys_of}
use Rattle.bw_run.proofs.forest.sample.keys_of.Given as goal

abbrev pub invariant-loop-row : goal.invariant-loop-row
invariant-loop-row l = l.keys.items ≡ keys_of (take l.row-index l.rows)
