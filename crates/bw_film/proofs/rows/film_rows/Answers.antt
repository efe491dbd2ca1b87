use Rattle.std.proofs.Common.{◌∙◌}
use Rattle.bw_film.proofs.rows.film_rows.Goals as goal

pub loop-place-preserved : goal.loop-place-preserved
loop-place-preserved c = record {
  choice = c.film_row.ensures.choice ∙ c.loop-place.invariant.choice;
  workers = c.in_ok-film_row.ensures.workers ∙ c.loop-place.invariant.workers;
  done = c.in_ok-film_row.ensures.done;
}
