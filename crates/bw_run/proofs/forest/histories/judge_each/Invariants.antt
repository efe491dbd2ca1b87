use Rattle.std.proofs.Common.{◌≡◌, ◌<◌, ℕ, [], Some, map}
use Rattle.std.specs.Prelude.{slice_get, slice_index_or}
use Rattle.bw_step.specs.Trails.{lists_of}
use Rattle.bw_law.specs.Tables.{TableValue}
use Rattle.bw_forest.specs.Forests.{tables_of}
use Rattle.bw_run.specs.ForestRuns.{IsLegalAt}
use Rattle.bw_run.proofs.forest.histories.judge_each.Given as goal

abbrev pub invariant-loop-number : goal.invariant-loop-number
invariant-loop-number l =
    (at : ℕ) → at < l.number → (table : TableValue) → slice_get (tables_of l.trees) at ≡ Some table
    → IsLegalAt table (slice_index_or (map (λ its. lists_of its.items) l.trails) at [])
