use Rattle.std.proofs.Common.{sym, ◌∙◌}
use Rattle.std.specs.Prelude.{is_ok}
use Rattle.bw_snap.proofs.Changes.{made_where_some, made_where_posted}
use Rattle.bw_snap.proofs.shown.carry_out.Goals as goal

pub returns-in-Change-clause-done : goal.returns-in-Change-clause-done
returns-in-Change-clause-done c holds =
    let it = c.in-Change in
    rw it.is (made_where_some c.args.table.now c.change_leaf.new.self c.args.page it.key it.wished c.change_leaf.result c.is_some.result c.change_leaf.ensures.done c.is_some.ensures holds)

pub returns-in-Post-clause-done : goal.returns-in-Post-clause-done
returns-in-Post-clause-done c holds =
    let it = c.in-Post in
    let posted = c.post_at_once in
    rw it.is (made_where_posted c.args.table.now posted.new.self c.args.page it.child (is_ok posted.result)
    posted.ensures.posted (sym c.is_ok-in-Post.ensures.value ∙ holds))
