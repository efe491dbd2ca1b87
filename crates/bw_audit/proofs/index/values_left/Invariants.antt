use Rattle.std.proofs.Common.{ℕ, ◌≡◌, map, take}
use Rattle.bw_audit.specs.Changes.{bearer}
use Rattle.bw_audit.specs.Indexed.{after_of}
use Rattle.bw_audit.proofs.index.values_left.Given as goal

abbrev pub invariant-loop-place : goal.invariant-loop-place
invariant-loop-place l = l.left.items ≡ map (λ (row : ℕ × ℕ). after_of (bearer l.changes row.1)) (take l.place l.rows)
