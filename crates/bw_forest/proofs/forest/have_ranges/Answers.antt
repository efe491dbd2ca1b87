use Rattle.std.proofs.Common.{rules, ◌≤◌, length, arith}
use Rattle.bw_forest.specs.Plots.{PlotValue}
use Rattle.bw_forest.proofs.Closing.{length_map, length_ranges, same_by_get}
use Rattle.bw_forest.proofs.forest.have_ranges.Goals as goal

pub returns-clause-ranges : goal.returns-clause-ranges
returns-clause-ranges g c = λ _.
    let trees = length_map (λ (tree : PlotValue). tree.range) c.args.trees.now in
    let bounds = length_ranges c.args.bounds.now in
    let past : length c.args.bounds.now ≤ c.loop-i.i = search rules in
    same_by_get _ _ (omega (arith, trees, bounds, c.requires.each))
    (λ k less. c.loop-i.invariant k (omega (arith, less, trees, past, c.requires.each)))
