use Rattle.std.proofs.Common.{rules}
use Rattle.bw_procedures.proofs.account.Account.visited.Goals as goal

pub returns-in-Gone : goal.returns-in-Gone
returns-in-Gone c = search rules
