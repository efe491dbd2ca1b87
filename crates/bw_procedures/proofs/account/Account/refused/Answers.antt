use Rattle.std.proofs.Common.{rules}
use Rattle.bw_procedures.proofs.account.Account.refused.Goals as goal

pub returns-in-TableFull : goal.returns-in-TableFull
returns-in-TableFull c = search rules
