use Rattle.bw_procedures.proofs.tending.present.Goals as goal

pub returns-in_err-view : goal.returns-in_err-view
returns-in_err-view g c = record { follows = c.peek.ensures.follows; seen = c.peek.ensures.seen }

pub returns-in-Marked : goal.returns-in-Marked
returns-in-Marked g c = record { follows = c.peek.ensures.follows; seen = c.peek.ensures.seen }

pub returns-in-Unposted : goal.returns-in-Unposted
returns-in-Unposted g c = record { follows = c.peek.ensures.follows; seen = c.peek.ensures.seen }
