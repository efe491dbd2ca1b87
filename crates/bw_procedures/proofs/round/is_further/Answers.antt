use Rattle.std.proofs.Common.{rules}
use Rattle.bw_procedures.proofs.round.is_further.Goals as goal

pub returns-then-level-from_level-2 : goal.returns-then-level-from_level-2
returns-then-level-from_level-2 c = search rules
