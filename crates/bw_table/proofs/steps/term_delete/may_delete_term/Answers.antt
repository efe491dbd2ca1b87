use Rattle.std.proofs.Common.{rules}
use Rattle.bw_table.proofs.steps.term_delete.may_delete_term.Goals as goal

pub returns-then-not-holds : goal.returns-then-not-holds
returns-then-not-holds g c = search rules

pub returns-then-is_full : goal.returns-then-is_full
returns-then-is_full g c = search rules

pub returns-then-is_worn : goal.returns-then-is_worn
returns-then-is_worn g c = search rules

pub returns : goal.returns
returns g c = search rules
