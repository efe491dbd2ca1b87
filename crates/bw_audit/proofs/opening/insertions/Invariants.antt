use Rattle.std.proofs.Common.{◌≡◌, ◌++◌, drop}
use Rattle.bw_audit.specs.Opened.{insertions}
use Rattle.bw_audit.proofs.opening.insertions.Given as goal

abbrev pub invariant-loop-place : goal.invariant-loop-place
invariant-loop-place l = l.trail.items ++ insertions l.place (drop l.place l.pairs) ≡ insertions 0 l.pairs
