use Rattle.std.proofs.Common.{refl, arith}
use Rattle.bw_film.proofs.Crews.{begins}
use Rattle.bw_film.proofs.crew.begin.Goals as goal

pub returns-then-worker-len : goal.returns-then-worker-len
returns-then-worker-len c =
    begins c.args.rows.now c.args.place c.numbered_row-row.result c.args.crew.now.items c.index.result.now _ c.numbered_row-row.ensures.number c.numbered_row-row.ensures.at (omega (arith, c.len.ensures, c.if-worker-len.true)) c.index.ensures refl refl refl c.next_of.ensures
