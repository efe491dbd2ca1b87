use Rattle.std.proofs.Common.{refl, arith}
use Rattle.bw_film.proofs.Crews.{answers, answers_apart}
use Rattle.bw_film.proofs.crew.answer.Goals as goal

pub returns-then-worker-len : goal.returns-then-worker-len
returns-then-worker-len c =
    answers c.args.rows.now c.args.place c.numbered_row-row.result c.args.reply c.args.crew.now.items c.index.result.now _ _ c.numbered_row-row.ensures.number c.numbered_row-row.ensures.at (omega (arith, c.len.ensures, c.if-worker-len.true)) c.index.ensures refl refl refl refl refl refl

pub returns-else-worker-len : goal.returns-else-worker-len
returns-else-worker-len c = answers_apart c.args.rows.now c.args.place c.numbered_row-row.result c.args.reply c.args.crew.now.items c.numbered_row-row.ensures.number c.numbered_row-row.ensures.at (omega (arith, c.len.ensures, c.if-worker-len.false))
