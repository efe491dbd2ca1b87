use Rattle.std.proofs.Common.{◌≡◌, [], length}
use Rattle.bw_film.specs.Crews.{IsCrew}
use Rattle.bw_film.proofs.crew.crew_of.Given as goal

abbrev pub invariant-loop-worker : goal.invariant-loop-worker
invariant-loop-worker l = record {
  many : length l.crew.items ≡ l.worker;
  before : IsCrew l.rows [] 0 l.crew.items;
}
