use Rattle.std.proofs.Common.{◌≡◌, length}
use Rattle.bw_film.specs.Filming.{IsFilmedUpTo}
use Rattle.bw_film.proofs.rows.film_rows.Given as goal

abbrev pub invariant-loop-place : goal.invariant-loop-place
invariant-loop-place l = record {
  choice : l.filmed.film.choice ≡ l.fn.choice;
  workers : length l.filmed.film.crew.items ≡ l.fn.workers;
  done : IsFilmedUpTo l.rows l.place l.filmed.film l.filmed.steps.account.seen.trail;
}
