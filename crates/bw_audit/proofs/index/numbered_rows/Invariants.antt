use Rattle.std.proofs.Common.{◌≡◌}
use Rattle.bw_audit.specs.Indexed.{rows_upto}
use Rattle.bw_audit.proofs.index.numbered_rows.Given as goal

abbrev pub invariant-loop-last : goal.invariant-loop-last
invariant-loop-last l = l.rows.items ≡ rows_upto l.changes l.last
