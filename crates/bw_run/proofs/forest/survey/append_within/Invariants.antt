use Rattle.std.proofs.Common.{◌≡◌, ◌++◌, drop}
use Rattle.std.specs.List.{filter_map}
use Rattle.bw_run.specs.ForestSurveys.{cut_to}
use Rattle.bw_run.proofs.forest.survey.append_within.Given as goal

-- the leaves so far, and what is left
abbrev pub invariant-loop-leaf : goal.invariant-loop-leaf
invariant-loop-leaf l = l.leaves.items ++ filter_map (cut_to l.range) (drop l.leaf-index l.own) ≡ l.fn.leaves.items ++ filter_map
    (cut_to l.range) l.own
