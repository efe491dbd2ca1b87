use Rattle.std.proofs.Common.{rules}
use Rattle.bw_procedures.proofs.steps.Keep.keeps.Goals as goal

pub returns-in-IfFound : goal.returns-in-IfFound
returns-in-IfFound c = search rules
