use Rattle.std.proofs.Common.{◌≡◌, ◌++◌, map}
use Rattle.bw_run.specs.Answers.{columns_of}
use Rattle.bw_run.proofs.merging.replies_of.Given as goal

abbrev pub invariant-loop-each : goal.invariant-loop-each
invariant-loop-each l = map (λ column. column.rest.items) l.columns.items ++ columns_of l.each-iterator.rest.items ≡ columns_of l.fn.answers.items
