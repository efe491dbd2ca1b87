use Rattle.std.proofs.Common.{refl}
use Rattle.bw_work.proofs.hand.HandStepsStep.visit.Goals as goal

pub returns-clause-seen : goal.returns-clause-seen
returns-clause-seen g c = rw c.visited.ensures (record { config = refl; trail = refl; full = refl; tall = refl; worn = refl }, refl)
