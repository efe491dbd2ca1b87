use Rattle.std.proofs.Common.{◌≡◌, ◌++◌, ◌-◌}
use Rattle.bw_texts.specs.Made.{rows_drawn, trace_drawn}
use Rattle.bw_texts.proofs.trace.made.make.Given as goal

abbrev pub invariant-loop-number : goal.invariant-loop-number
invariant-loop-number l = l.made.items ++ rows_drawn l.workers l.span l.random l.number (l.rows - l.number) ≡ trace_drawn l.fn.seed l.rows l.workers l.span
