use Rattle.std.proofs.Common.{◌≡◌, ◌<◌, ℕ, false, List, None, Ok, length, map, ap, sym, subst, ◌∙◌}
use Rattle.std.specs.Prelude.{All}
use Rattle.std.specs.List.{AllByRecursion}
use Rattle.std.proofs.lemmas.List.{length-map}
use Rattle.bw_step.specs.declared.receipt.Receipt.{Receipt}
use Rattle.bw_step.specs.Trails.{lists_of}
use Rattle.bw_law.specs.Tables.{TableValue}
use Rattle.bw_tree.specs.Trees.{IsTree}
use Rattle.bw_texts.specs.declared.trace.row.Row.{Row}
use Rattle.bw_forest.specs.Forests.{tables_of}
use Rattle.bw_crew.specs.Workers.{ByNumber}
use Rattle.bw_run.specs.declared.answers.Answers.{Answers}
use Rattle.bw_run.specs.Answers.{StopsIn, columns_of}
use Rattle.bw_run.specs.ForestFaults.{EndsForest, NamesFirstBad}
use Rattle.bw_run.specs.ForestRuns.{EachIsLegal, by_trees}
use Rattle.bw_run.specs.Rows.{acts_of}
use Rattle.bw_run.proofs.ForestDone.{full, stops_promised, told}
use Rattle.bw_run.proofs.ForestEnds.{as_many, bad_ends, each_sorted, have_trails, many_sorted, shares_sorted, told_sorted}
use Rattle.bw_run.proofs.Runs.{passed_on, same_length}
use Rattle.bw_run.proofs.forest.ending.finish_forest.Goals as goal

pub check_stops-requires : goal.check_stops-requires
check_stops-requires c =
    let answers = c.in_ok-answers.answers.items in
    let stops = stops_promised c.args.outcome.forest.bounds (λ it. it.output) (λ it. lists_of it.trails.items) c.args.rows.now 0
    c.args.outcome.workers.items answers c.in_ok-answers.ensures.answers c.requires.promised in
    subst (λ (all : List Answers). ByNumber (λ worker. StopsIn false (acts_of worker c.args.rows.now)) 0 all)
    (sym c.deref.ensures.value) stops

pub judge_each-requires-clause-trees : goal.judge_each-requires-clause-trees
judge_each-requires-clause-trees c = subst (λ (tables : List TableValue). All IsTree tables)
    (sym c.trees-2.ensures.tables) c.trees-2.ensures.trees

pub judge_each-requires-clause-each : goal.judge_each-requires-clause-each
judge_each-requires-clause-each c =
    let sorted = c.in_ok-answers.trails.items in
    let bounds = c.args.outcome.forest.bounds in
    let many = many_sorted c.trees.result c.args.outcome.workers.items sorted c.in_ok-answers.ensures.trails in
    ap length c.deref-2.ensures.value
    ∙ (many ∙ (c.trees.ensures.count ∙ (ap length c.bounds.ensures
    ∙ sym (as_many bounds c.trees-2.result.now c.trees-2.ensures.ranges))))

pub returns-in_err-judge_each-clause-fault : goal.returns-in_err-judge_each-clause-fault
returns-in_err-judge_each-clause-fault c =
    let workers = c.args.outcome.workers.items in
    let tables = c.args.outcome.forest.tables in
    let fault = c.in_err-judge_each.field-0.0 in
    let rows_of = map (λ it. lists_of it.trails.items) workers in
    let trails = by_trees (length c.args.outcome.forest.bounds) rows_of in
    let number : c.trees.result ≡ length c.args.outcome.forest.bounds = c.trees.ensures.count ∙ ap length c.bounds.ensures in
    let same = ap (λ (ts : List _). map (λ its. lists_of its.items) ts) c.deref-2.ensures.value
    ∙ (c.in_ok-answers.ensures.trails ∙ ap (λ (n : ℕ). by_trees n rows_of) number) in
    let bad = subst (λ (all : List TableValue). NamesFirstBad all trails fault) c.trees-2.ensures.tables
    (subst (λ (all : List (List (List Receipt))). NamesFirstBad (tables_of c.trees-2.result.now) all fault) same
    c.in_err-judge_each.ensures.fault) in
    passed_on c.from_residual-in_err-judge_each.result fault (EndsForest (length workers) c.args.rows.now tables trails)
    c.from_residual-in_err-judge_each.ensures.1 (bad_ends c.args.rows.now tables trails (length workers) fault bad)

pub merge-requires-clause-workers : goal.merge-requires-clause-workers
merge-requires-clause-workers c =
    let answers = c.in_ok-answers.answers.items in
    let many = same_length (λ it. it.output) Ok c.args.outcome.workers.items answers c.in_ok-answers.ensures.answers in
    subst (λ (n : ℕ). AllByRecursion (λ (row : Row). row.worker < n) c.args.rows.now) many c.requires.workers

pub merge-requires-clause-full : goal.merge-requires-clause-full
merge-requires-clause-full c =
    let answers = c.in_ok-answers.answers.items in
    let none = subst (λ (all : List Answers). All (λ each. each.stop ≡ None) all) c.deref.ensures.value
    c.in_ok-check_stops.ensures.all in
    full c.args.outcome.forest.bounds (λ it. it.output) (λ it. lists_of it.trails.items) c.args.rows.now c.args.outcome.workers.items
    answers c.in_ok-answers.ensures.answers c.requires.promised none

pub returns-clause-shares : goal.returns-clause-shares
returns-clause-shares c =
    let workers = c.args.outcome.workers.items in
    let number : c.trees.result ≡ length c.args.outcome.forest.bounds = c.trees.ensures.count ∙ ap length c.bounds.ensures in
    let have = have_trails c.trees.result workers (subst (λ (n : ℕ). All (λ it. length it.trails.items ≡ n) workers)
    (sym number) c.requires.trails) in
    shares_sorted c.trees.result workers c.in_ok-answers.trails.items have c.in_ok-answers.ensures.trails

pub returns-clause-trails : goal.returns-clause-trails
returns-clause-trails c =
    many_sorted c.trees.result c.args.outcome.workers.items c.in_ok-answers.trails.items c.in_ok-answers.ensures.trails
    ∙ (c.trees.ensures.count ∙ ap length c.bounds.ensures)

pub returns-clause-each : goal.returns-clause-each
returns-clause-each c =
    let workers = c.args.outcome.workers.items in
    let number : c.trees.result ≡ length c.args.outcome.forest.bounds = c.trees.ensures.count ∙ ap length c.bounds.ensures in
    each_sorted c.trees.result workers c.in_ok-answers.trails.items
    (subst (λ (n : ℕ). All (λ it. length it.trails.items ≡ n) workers) (sym number) c.requires.trails)
    c.in_ok-answers.ensures.trails

pub returns-clause-legal : goal.returns-clause-legal
returns-clause-legal c =
    let sorted = c.in_ok-answers.trails.items in
    subst (λ (tables : List TableValue). EachIsLegal tables (map (λ its. lists_of its.items) sorted)) c.trees-2.ensures.tables
    (subst (λ (ts : List _). EachIsLegal (tables_of c.trees-2.result.now) (map (λ its. lists_of its.items) ts)) c.deref-2.ensures.value
    c.in_ok-judge_each.ensures.legal)

pub returns-clause-reported : goal.returns-clause-reported
returns-clause-reported c = λ worker inside.
    let workers = c.args.outcome.workers.items in
    let answers = c.in_ok-answers.answers.items in
    let number : c.trees.result ≡ length c.args.outcome.forest.bounds = c.trees.ensures.count ∙ ap length c.bounds.ensures in
    let have = have_trails c.trees.result workers (subst (λ (n : ℕ). All (λ it. length it.trails.items ≡ n) workers)
    (sym number) c.requires.trails) in
    let many = same_length (λ it. it.output) Ok workers answers c.in_ok-answers.ensures.answers in
    let columns : length (columns_of answers) ≡ length answers = length-map answers (λ each. each.replies.items) in
    let within : worker < length answers = subst (λ (n : ℕ). worker < n) many inside in
    let in_columns : worker < length (columns_of answers) = subst (λ (n : ℕ). worker < n) (sym columns) within in
    let none = subst (λ (all : List Answers). All (λ each. each.stop ≡ None) all) c.deref.ensures.value
    c.in_ok-check_stops.ensures.all in
    let tells = told c.args.outcome.forest.bounds (λ it. it.output) (λ it. lists_of it.trails.items) c.args.rows.now workers answers
    c.in_ok-answers.ensures.answers c.requires.promised none worker within in
    let own = c.in_ok-replies.ensures.own worker in_columns in
    told_sorted c.trees.result workers c.in_ok-answers.trails.items have c.in_ok-answers.ensures.trails worker inside
    c.args.outcome.forest.bounds (acts_of worker c.args.rows.now) _ _ own tells
