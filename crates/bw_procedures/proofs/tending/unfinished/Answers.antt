use Rattle.bw_procedures.proofs.tending.unfinished.Goals as goal

pub returns-in_err-now-in-Post : goal.returns-in_err-now-in-Post
returns-in_err-now-in-Post g c = record { follows = c.peek.ensures.follows; seen = c.peek.ensures.seen }

pub returns-in_ok-now-in-Post : goal.returns-in_ok-now-in-Post
returns-in_ok-now-in-Post g c = record { follows = c.peek.ensures.follows; seen = c.peek.ensures.seen }

pub returns-in_err-now-in-Merge : goal.returns-in_err-now-in-Merge
returns-in_err-now-in-Merge g c = record { follows = c.peek-in-Merge.ensures.follows; seen = c.peek-in-Merge.ensures.seen }
