use Rattle.std.proofs.Common.{append_assoc}
use Rattle.bw_film.proofs.page.whole_span.Goals as goal

pub returns : goal.returns
returns c = simp append_assoc c.format.ensures.ok
