use Rattle.std.proofs.Common.{rules}
use Rattle.bw_procedures.proofs.account.Account.accepted.Goals as goal

pub returns-in_default : goal.returns-in_default
returns-in_default c = search rules
