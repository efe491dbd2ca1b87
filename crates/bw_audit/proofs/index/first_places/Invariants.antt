use Rattle.std.proofs.Common.{take, length}
use Rattle.bw_audit.specs.Indexed.{ArePlaces}
use Rattle.bw_audit.proofs.index.first_places.Given as goal

abbrev pub invariant-loop-place : goal.invariant-loop-place
invariant-loop-place l = ArePlaces (take l.place l.changes) (length l.changes) l.places.items
