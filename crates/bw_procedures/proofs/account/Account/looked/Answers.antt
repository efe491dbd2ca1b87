use Rattle.std.proofs.Common.{rules}
use Rattle.bw_procedures.proofs.account.Account.looked.Goals as goal

pub returns-then-keeps : goal.returns-then-keeps
returns-then-keeps c = search rules

pub returns-else-keeps : goal.returns-else-keeps
returns-else-keeps c = search rules
