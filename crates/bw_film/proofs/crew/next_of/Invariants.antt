use Rattle.bw_film.specs.Crews.{NoneOf}
use Rattle.bw_film.proofs.crew.next_of.Given as goal

abbrev pub invariant-loop-place : goal.invariant-loop-place
invariant-loop-place l = NoneOf l.rows l.worker l.from l.place
