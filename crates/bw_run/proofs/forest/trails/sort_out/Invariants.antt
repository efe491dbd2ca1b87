use Rattle.std.proofs.Common.{◌≡◌, ◌++◌, List, Ok, length, map}
use Rattle.std.specs.Prelude.{All}
use Rattle.bw_step.specs.Trails.{lists_of}
use Rattle.bw_run.specs.ForestRuns.{by_trees}
use Rattle.bw_run.proofs.forest.trails.sort_out.Given as goal

abbrev pub invariant-loop-worker : goal.invariant-loop-worker
invariant-loop-worker l = record {
  answers : map (λ it. it.output) l.fn.workers.items ≡ map Ok l.answers.items ++ map (λ it. it.output) l.worker-iterator.rest.items;
  count : length l.by_tree.items ≡ l.trees;
  each : All (λ it. length it.trails.items ≡ l.trees) l.worker-iterator.rest.items;
  trails : (done : List _) × (l.fn.workers.items ≡ done ++ l.worker-iterator.rest.items)
      × (map (λ its. lists_of its.items) l.by_tree.items ≡ by_trees l.trees (map (λ it. lists_of it.trails.items) done));
}
