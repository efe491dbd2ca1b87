use Rattle.std.proofs.Common.{◌≡◌, All, None, take}
use Rattle.bw_run.proofs.stopping.check_stops.Given as goal

abbrev pub invariant-loop-worker : goal.invariant-loop-worker
invariant-loop-worker g l = All (λ each. each.stop ≡ None) (take l.worker l.answers)
