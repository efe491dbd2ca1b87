use Rattle.std.proofs.Common.{rules}
use Rattle.bw_table.proofs.steps.mark.may_mark.Goals as goal

pub returns-then-slot : goal.returns-then-slot
returns-then-slot g c = search rules

pub returns-then-is_worn : goal.returns-then-is_worn
returns-then-is_worn g c = search rules

pub returns : goal.returns
returns g c = search rules
