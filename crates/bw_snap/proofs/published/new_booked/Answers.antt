use Rattle.std.proofs.Common.{rules}
use Rattle.bw_snap.proofs.published.new_booked.Goals as goal

pub returns-in_default-clause-fault : goal.returns-in_default-clause-fault
returns-in_default-clause-fault g c = search rules
