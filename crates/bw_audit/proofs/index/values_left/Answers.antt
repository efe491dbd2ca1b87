use Rattle.bw_audit.proofs.Leaving.{row_at}
use Rattle.bw_audit.proofs.index.values_left.Goals as goal

pub after-requires-clause-number : goal.after-requires-clause-number
after-requires-clause-number c =
    (row_at c.args.changes.now c.args.rows.now c.requires.kept c.requires.in_order c.loop-place.place (0, 0) c.loop-place-test.true).1
