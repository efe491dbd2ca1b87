use Rattle.std.proofs.Common.{rules}
use Rattle.bw_procedures.proofs.account.Account.new.Goals as goal

pub returns-clause-effort : goal.returns-clause-effort
returns-clause-effort c = search rules
