use Rattle.bw_audit.proofs.Leaving.{IsLeftBefore}
use Rattle.bw_audit.proofs.index.pairs_left.Given as goal

abbrev pub invariant-loop-place : goal.invariant-loop-place
invariant-loop-place l = IsLeftBefore l.changes l.rows l.place l.pairs.items
