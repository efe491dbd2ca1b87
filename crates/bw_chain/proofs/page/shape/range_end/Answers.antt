use Rattle.std.proofs.Common.{rules}
use Rattle.bw_chain.proofs.page.shape.range_end.Goals as goal

pub returns-in-Merged-clause-high : goal.returns-in-Merged-clause-high
returns-in-Merged-clause-high g c = search rules
