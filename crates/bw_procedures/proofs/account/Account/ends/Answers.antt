use Rattle.std.proofs.Common.{rules}
use Rattle.bw_procedures.proofs.account.Account.ends.Goals as goal

pub returns : goal.returns
returns c = search rules
