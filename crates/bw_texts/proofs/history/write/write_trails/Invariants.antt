use Rattle.std.proofs.Common.{take}
use Rattle.bw_step.specs.Trails.{lists_of}
use Rattle.bw_texts.specs.Written.{HasWritten}
use Rattle.bw_texts.specs.WrittenHistories.{trails_text}
use Rattle.bw_texts.proofs.history.write.write_trails.Given as goal

abbrev pub invariant-loop-worker : goal.invariant-loop-worker
invariant-loop-worker g l = HasWritten g.W.Write.contents l.fn.writer l.writer (trails_text 0 (take l.worker (lists_of l.trails)))
