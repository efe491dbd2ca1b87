use Rattle.std.proofs.Common.{rules}
use Rattle.bw_snap.proofs.published.has_too_few_or_many.Goals as goal

pub returns : goal.returns
returns c = search rules
