use Rattle.std.proofs.Common.{rules}
use Rattle.bw_audit.proofs.Indexing.{enter_new, enter_known, enter_beyond, no_change}
use Rattle.bw_audit.proofs.index.enter.Goals as goal
use Rattle.bw_audit.proofs.index.enter.Goals.{else-number-len-via-then-number-len+else-is_none, else-number-len-via-else-number-len}

pub returns-then-is_none : goal.returns-then-is_none
returns-then-is_none c =
    enter_new c.args.changes.now _ c.args.place _ c.requires.inside c.args.places.now.items c.requires.places (search rules) (search rules)

pub returns-else-number-len : goal.returns-else-number-len
returns-else-number-len c =
    elim c.else-number-len.branch [
      | else-number-len-via-then-number-len+else-is_none w ↦
          enter_known c.args.changes.now _ c.args.place no_change c.requires.inside c.args.places.now.items c.requires.places w.index.result.now w.index.ensures (search rules) (search rules)
      | else-number-len-via-else-number-len w ↦
          enter_beyond c.args.changes.now _ c.args.place no_change c.requires.inside c.args.places.now.items c.requires.places (search rules)
    ]
