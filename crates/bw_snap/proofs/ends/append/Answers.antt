use Rattle.std.proofs.Common.{rules}
use Rattle.bw_snap.proofs.ends.append.Goals as goal

pub returns-in-Ok-clause-pending : goal.returns-in-Ok-clause-pending
returns-in-Ok-clause-pending g c = search rules
