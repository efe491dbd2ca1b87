use Rattle.bw_audit.proofs.Leaving.{row_at}
use Rattle.bw_audit.proofs.index.pair_left.Goals as goal

pub after-requires-clause-number : goal.after-requires-clause-number
after-requires-clause-number c =
    (row_at c.args.changes.now c.args.rows.now c.requires.index.kept c.requires.index.in_order c.args.place (0, 0) c.requires.inside).1
