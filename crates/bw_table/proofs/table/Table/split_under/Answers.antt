use Rattle.bw_table.proofs.Undone.{still_unposted}
use Rattle.bw_table.proofs.table.Table.split_under.Goals as goal

pub returns-clause-unposted : goal.returns-clause-unposted
returns-clause-unposted g c =
    let posted = c.post_at_once-posted.ensures in
    still_unposted c.split_at_once.new.self c.post_at_once-posted.new.self c.args.parent.0 c.in-Ok.new
    c.post_at_once-posted.result posted.posted posted.why
