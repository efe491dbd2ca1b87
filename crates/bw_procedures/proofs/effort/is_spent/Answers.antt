use Rattle.std.proofs.Common.{rules}
use Rattle.bw_procedures.proofs.effort.is_spent.Goals as goal

pub returns : goal.returns
returns g c = search rules
