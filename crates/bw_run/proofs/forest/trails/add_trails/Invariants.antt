use Rattle.std.proofs.Common.{◌≡◌, ◌+◌, drop, length, map, take}
use Rattle.bw_step.specs.Trails.{lists_of}
use Rattle.bw_run.specs.ForestRuns.{with_last}
use Rattle.bw_run.proofs.forest.trails.add_trails.Given as goal

abbrev pub invariant-loop-trail : goal.invariant-loop-trail
invariant-loop-trail l = record {
  left : l.tree + length l.trail-iterator.rest.items ≡ length l.fn.trails.items;
  rest : l.trail-iterator.rest.items ≡ drop l.tree l.fn.trails.items;
  count : length l.by_tree.items ≡ length l.fn.by_tree.items;
  added : map (λ its. lists_of its.items) l.by_tree.items ≡ with_last (take l.tree (lists_of l.fn.trails.items))
      (map (λ its. lists_of its.items) l.fn.by_tree.items);
}
