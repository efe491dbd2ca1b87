use Rattle.std.proofs.Common.{◌<◌, drop}
use Rattle.std.specs.Prelude.{◌↔◌}
use Rattle.std.specs.List.{AllByRecursion}
use Rattle.bw_texts.proofs.trace.row.is_trace_for.Given as goal

-- the rows that are left decide
abbrev pub invariant-loop-row : goal.invariant-loop-row
invariant-loop-row l = AllByRecursion (λ row. row.worker < l.workers) (drop l.row-index l.rows) ↔ AllByRecursion (λ row. row.worker < l.workers) l.rows
