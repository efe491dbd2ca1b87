use Rattle.std.proofs.Common.{◌≡◌}
use Rattle.std.specs.Prelude.{replicate, []}
use Rattle.bw_step.specs.Trails.{lists_of}
use Rattle.bw_audit.proofs.replayer.empty_trails.Given as goal

abbrev pub invariant-loop : goal.invariant-loop
invariant-loop l = lists_of l.trails.items ≡ replicate l.counter []
