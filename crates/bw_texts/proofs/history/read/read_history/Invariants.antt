use Rattle.std.proofs.Common.{◌≡◌, ℕ, List, Some, length}
use Rattle.bw_step.specs.Trails.{lists_of}
use Rattle.bw_texts.specs.declared.history.line.Line.{Line}
use Rattle.bw_texts.specs.Histories.{AreTrailsOf, HaveRisingKeys, row_count}
use Rattle.bw_texts.specs.Lines.{history_line, pairs_of}
use Rattle.bw_texts.specs.Reading.{HasReadAs, IsOpen}
use Rattle.bw_texts.proofs.history.read.read_history.Given as goal

abbrev pub invariant-loop-done : goal.invariant-loop-done
invariant-loop-done g l = record {
  fresh : IsOpen l.reader;
  ascending : HaveRisingKeys l.pairs.items;
  count : row_count (lists_of l.trails.items) l.pairs.items ≡ l.done;
  read : (bytes : List ℕ) → g.R.Read.remaining l.fn.input ≡ Some bytes
      → (lines : List Line) × HasReadAs g.R.Read.remaining l.reader history_line bytes lines
      × AreTrailsOf (lists_of l.trails.items) lines × (l.pairs.items ≡ pairs_of lines) × (length lines ≡ l.done);
}
