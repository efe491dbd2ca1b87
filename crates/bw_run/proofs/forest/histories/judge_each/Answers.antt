use Rattle.std.proofs.Common.{◌≡◌, ◌<◌, [], refl, length, map, ap, sym, subst, ◌∙◌, arith}
use Rattle.std.specs.Prelude.{slice_index_or}
use Rattle.std.proofs.lemmas.List.{get_or-map, length-map}
use Rattle.std.proofs.lemmas.Option.{slice_get_read, slice_get_within}
use Rattle.bw_step.specs.Trails.{lists_of}
use Rattle.bw_tree.specs.Trees.{IsTree}
use Rattle.bw_forest.specs.Forests.{tables_of}
use Rattle.bw_forest.specs.Plots.{PlotValue}
use Rattle.bw_run.specs.ForestFaults.{NamesFirstBad}
use Rattle.bw_run.proofs.ForestLeaves.{read_at}
use Rattle.bw_run.proofs.ForestLegal.{first_bad, legal_more}
use Rattle.bw_run.proofs.Runs.{passed_on}
use Rattle.bw_run.proofs.forest.histories.judge_each.Goals as goal

pub judge_tree-requires : goal.judge_tree-requires
judge_tree-requires c =
    let trees = c.args.trees.now in
    let number = c.loop-number.number in
    let table = c.table.result.now in
    let within : number < length (tables_of trees) =
    omega (arith, c.loop-number-test.true, length-map trees (λ (t : PlotValue). t.table)) in
    let is = read_at (λ (t : PlotValue). t.table) trees (tables_of trees) number c.index-trees-number.result table refl
    c.loop-number-test.true c.index-trees-number.is c.table.ensures.same in
    subst IsTree (sym is) (c.requires.trees number table within)

pub loop-number-preserved : goal.loop-number-preserved
loop-number-preserved c =
    let tables = tables_of c.args.trees.now in
    let trails = c.args.trails.now in
    let number = c.loop-number.number in
    let table = c.table.result.now in
    let its = c.index-trails-number.result in
    let within : number < length tables =
    omega (arith, c.loop-number-test.true, length-map c.args.trees.now (λ (t : PlotValue). t.table)) in
    let is = read_at (λ (t : PlotValue). t.table) c.args.trees.now tables number c.index-trees-number.result table refl
    c.loop-number-test.true c.index-trees-number.is c.table.ensures.same in
    let there = slice_get_read tables (length tables) number table refl within is in
    let in_trails : number < length trails = omega (arith, c.loop-number-test.true, c.requires.each) in
    let read : slice_index_or (map (λ own. lists_of own.items) trails) number [] ≡ lists_of its.items =
    get_or-map (λ own. lists_of own.items) trails number its [] in_trails ∙ ap (λ own. lists_of own.items) (sym c.index-trails-number.is) in
    legal_more tables (map (λ own. lists_of own.items) trails) number table (lists_of c.deref.result.now) there
    (ap lists_of c.deref.ensures.value ∙ sym read) c.in_ok-judge_tree.ensures.legal c.loop-number.invariant

pub returns-clause-legal : goal.returns-clause-legal
returns-clause-legal c = λ tree table there.
    let inside = slice_get_within (tables_of c.args.trees.now) tree table there in
    c.loop-number.invariant tree
    (omega (arith, inside, c.loop-number-test.false, length-map c.args.trees.now (λ (t : PlotValue). t.table))) table there

pub returns-in_err-judge_tree-clause-fault : goal.returns-in_err-judge_tree-clause-fault
returns-in_err-judge_tree-clause-fault c =
    let tables = tables_of c.args.trees.now in
    let trails = c.args.trails.now in
    let lists = map (λ own. lists_of own.items) trails in
    let number = c.loop-number.number in
    let table = c.table.result.now in
    let its = c.index-trails-number.result in
    let fault = c.in_err-judge_tree.field-0.0 in
    let within : number < length tables =
    omega (arith, c.loop-number-test.true, length-map c.args.trees.now (λ (t : PlotValue). t.table)) in
    let is = read_at (λ (t : PlotValue). t.table) c.args.trees.now tables number c.index-trees-number.result table refl
    c.loop-number-test.true c.index-trees-number.is c.table.ensures.same in
    let there = slice_get_read tables (length tables) number table refl within is in
    let in_trails : number < length trails = omega (arith, c.loop-number-test.true, c.requires.each) in
    let in_lists : number < length lists = omega (arith, in_trails, length-map trails (λ own. lists_of own.items)) in
    let read : slice_index_or lists number [] ≡ lists_of its.items =
    get_or-map (λ own. lists_of own.items) trails number its [] in_trails ∙ ap (λ own. lists_of own.items) (sym c.index-trails-number.is) in
    let named = first_bad tables lists number table (lists_of c.deref.result.now) fault there
    (ap lists_of c.deref.ensures.value ∙ sym read) in_lists c.loop-number.invariant c.in_err-judge_tree.ensures.fault in
    passed_on c.from_residual.result fault (NamesFirstBad tables lists) c.from_residual.ensures.1 named
