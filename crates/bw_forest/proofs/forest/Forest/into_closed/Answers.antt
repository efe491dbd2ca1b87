use Rattle.std.proofs.Common.{rules, ◌≡◌, length, arith}
use Rattle.bw_forest.specs.Forests.{ComesApart, ForestValue, HasForestMap, config_of, tables_of}
use Rattle.bw_forest.specs.Plots.{PlotValue}
use Rattle.bw_forest.proofs.Closing.{comes_apart, if_err, if_ok, length_map}
use Rattle.bw_forest.proofs.Fits.{first_config, some_bounds}
use Rattle.bw_forest.proofs.forest.Forest.into_closed.Goals as goal

pub returns-clause-config : goal.returns-clause-config
returns-clause-config g c =
    let trees = c.fell.result.items in
    let count : length trees ≡ length c.args.self.bounds = search rules in
    let some = some_bounds c.args.self.bounds c.closed.ensures.some in
    let many = length_map (λ (t : PlotValue). t.table) trees in
    if_ok (λ (closed : ForestValue). closed.tables ≡ tables_of trees) (λ (closed : ForestValue). HasForestMap closed.tables)
    (λ (closed : ForestValue). config_of closed.tables ≡ g.I.MadeBy.config) c.closed.result
    (λ closed is map. rw is
    (first_config g.I.MadeBy.config (tables_of trees) (omega (arith, count, some, many)) c.fell.ensures.config))
    c.closed.ensures.tables c.closed.ensures.map

pub returns-clause-back : goal.returns-clause-back
returns-clause-back g c =
    let trees = c.fell.result.items in
    let bounds = c.args.self.bounds in
    let count : length trees ≡ length bounds = search rules in
    let fell = c.fell.ensures in
    if_err (λ it. (it.bounds ≡ bounds) × (it.trees.items ≡ trees)) (λ it. ComesApart bounds g.I.MadeBy.config it.bounds it.trees.items)
    c.closed.result
    (λ it is. comes_apart bounds g.I.MadeBy.config trees count fell.trees fell.within fell.config it.bounds it.trees.items is.0 is.1)
    c.closed.ensures.back
