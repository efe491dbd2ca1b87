use Rattle.std.proofs.Common.{rules}
use Rattle.bw_work.proofs.hand.Hand.finish.Goals as goal

pub returns-clause-trail : goal.returns-clause-trail
returns-clause-trail g c = search rules
