use Rattle.std.proofs.Common.{rules}
use Rattle.bw_snap.proofs.ends.advance.Goals as goal

pub returns-clause-ok : goal.returns-clause-ok
returns-clause-ok g c = search rules
