use Rattle.std.proofs.Common.{take}
use Rattle.bw_texts.specs.Written.{HasWritten}
use Rattle.bw_texts.specs.WrittenHistories.{trail_text}
use Rattle.bw_texts.proofs.history.write.write_trail.Given as goal

abbrev pub invariant-loop-receipt : goal.invariant-loop-receipt
invariant-loop-receipt g l = HasWritten g.W.Write.contents l.fn.writer l.writer (trail_text l.worker (take l.receipt-index l.trail))
