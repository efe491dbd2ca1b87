use Rattle.std.proofs.Common.{◌≡◌, ◌<◌, ℕ, List, Some, length}
use Rattle.std.specs.List.{AllByRecursion}
use Rattle.bw_texts.specs.Reading.{HasReadAs, IsOpen}
use Rattle.bw_texts.specs.Traces.{trace_row}
use Rattle.bw_texts.proofs.trace.read.read_trace.Given as goal

abbrev pub invariant-loop-done : goal.invariant-loop-done
invariant-loop-done g l = record {
  fresh : IsOpen l.reader;
  workers : AllByRecursion (λ row. row.worker < l.workers) l.rows.items;
  count : length l.rows.items ≡ l.done;
  read : (bytes : List ℕ) → g.R.Read.remaining l.fn.input ≡ Some bytes
      → HasReadAs g.R.Read.remaining l.reader (trace_row l.fn.workers) bytes l.rows.items;
}
