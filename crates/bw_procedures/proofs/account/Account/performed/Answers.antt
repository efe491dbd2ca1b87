use Rattle.std.proofs.Common.{arith}
use Rattle.bw_procedures.proofs.Performing.{one_at_least}
use Rattle.bw_procedures.proofs.account.Account.performed.Goals as goal

pub accepted-requires : goal.accepted-requires
accepted-requires g c = let one = one_at_least c.args.action in omega (arith, one, c.requires)
