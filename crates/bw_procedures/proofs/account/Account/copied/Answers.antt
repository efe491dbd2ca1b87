use Rattle.std.proofs.Common.{rules}
use Rattle.bw_procedures.proofs.account.Account.copied.Goals as goal

pub returns-in-Err : goal.returns-in-Err
returns-in-Err g c = search rules
