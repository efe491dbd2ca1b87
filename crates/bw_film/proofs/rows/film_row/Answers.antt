use Rattle.std.proofs.Common.{◌∙◌, ap, length, refl}
use Rattle.std.proofs.lemmas.List.{get_or_default}
use Rattle.bw_film.proofs.Filming.{films_go_on}
use Rattle.bw_film.proofs.rows.film_row.Goals as goal

pub returns-clause-workers : goal.returns-clause-workers
returns-clause-workers g c = c.answer.ensures.many ∙ ap length c.in_ok-reply.ensures.done.crew ∙ c.begin.ensures.many

pub returns-clause-done : goal.returns-clause-done
returns-clause-done g c =
    films_go_on c.args.rows.now c.args.place _ c.in_ok-reply.reply c.args.filmed.now.film _ c.do_row.new.filmed.film _ _ _ c.requires.inside (get_or_default c.args.rows.now c.args.place _ _ c.requires.inside) c.requires.before
    c.begin.ensures refl refl c.in_ok-reply.ensures.done c.answer.ensures refl refl
