use Rattle.std.proofs.Common.{take}
use Rattle.std.specs.Io.KnownBytes.{Appends}
use Rattle.csv.specs.Writing.{text_written}
use Rattle.bw_texts.specs.Written.{IsBetween, trace_text}
use Rattle.bw_texts.proofs.trace.write.write_trace.Given as goal

abbrev pub invariant-loop-row : goal.invariant-loop-row
invariant-loop-row g l = record {
  between : IsBetween l.writer;
  text : Appends (g.W.Write.contents l.fn.output) (text_written g.W.Write.contents l.writer) (trace_text (take l.row-index l.rows));
}
