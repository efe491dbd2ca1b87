use Rattle.bw_film.proofs.rows.row_text.Goals as goal

pub returns : goal.returns
returns c = record { rest = c.trim_end.result.now; is = c.in_ok-row_named.ensures }
