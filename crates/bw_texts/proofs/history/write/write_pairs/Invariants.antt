use Rattle.std.proofs.Common.{take, flat_map}
use Rattle.bw_texts.specs.Written.{HasWritten}
use Rattle.bw_texts.specs.WrittenHistories.{pair_text}
use Rattle.bw_texts.proofs.history.write.write_pairs.Given as goal

abbrev pub invariant-loop-pair : goal.invariant-loop-pair
invariant-loop-pair g l = HasWritten g.W.Write.contents l.fn.writer l.writer (flat_map pair_text (take l.pair-index l.pairs))
