use Rattle.std.proofs.Common.{rules}
use Rattle.bw_snap.proofs.shown.take.Goals as goal

pub returns : goal.returns
returns c = search rules
