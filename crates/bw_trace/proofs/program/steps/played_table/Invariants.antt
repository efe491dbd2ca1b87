use Rattle.std.specs.Prelude.{IfSome}
use Rattle.bw_scripts.specs.Played.{IsPlayed}
use Rattle.bw_trace.proofs.program.steps.played_table.Given as goal

abbrev pub invariant-loop-line : goal.invariant-loop-line
invariant-loop-line g l = record { played : IfSome l.player.table IsPlayed }
