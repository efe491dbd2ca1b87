use Rattle.std.proofs.Common.{append_assoc}
use Rattle.bw_film.proofs.rows.row_named.Goals as goal

pub returns : goal.returns
returns c = simp append_assoc c.format.ensures.ok
