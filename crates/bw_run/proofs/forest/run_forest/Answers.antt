use Rattle.std.proofs.Common.{rules, ◌≡◌, ◌<◌, ◌≤◌, ℕ, List, Result, Ok, Err, Vec, Global, length, map, ap, sym, subst, ◌∙◌, arith}
use Rattle.std.specs.Prelude.{All, IfErr, IfOk}
use Rattle.std.specs.List.{AllByRecursion}
use Rattle.std.proofs.lemmas.List.{length-map}
use Rattle.bw_step.specs.declared.receipt.Receipt.{Receipt}
use Rattle.bw_step.specs.Trails.{lists_of}
use Rattle.bw_tree.specs.Shares.{sum_of}
use Rattle.bw_texts.specs.declared.trace.row.Row.{Row}
use Rattle.bw_forest.specs.Bounds.{AreOfSample}
use Rattle.bw_forest.specs.Forests.{ForestValue, IsClosedForest}
use Rattle.bw_crew.specs.Workers.{ByNumber, share_by}
use Rattle.nifforan_forest.specs.Workers.{trails_of}
use Rattle.bw_run.specs.declared.forest.ending.FinishedForest.{FinishedForest}
use Rattle.bw_run.specs.ForestFaults.{EndsForest, IsForestRunFault}
use Rattle.bw_run.specs.ForestRuns.{EachIsLegal, TellsByTrees, by_trees, in_a_row, shares_at, trails_at}
use Rattle.bw_run.specs.Rows.{ArePlanned, keys_of}
use Rattle.bw_run.proofs.ForestDone.{AsPromised, as_planned}
use Rattle.bw_run.proofs.ForestColumns.{each_by_trees, length_by_trees}
use Rattle.bw_run.proofs.ForestEnds.{closed_same, forest_ends, have_trails, trails_in_rows}
use Rattle.bw_run.proofs.forest.run_forest.Goals as goal

ok_then : {T E : Type 0} → (r : Result T E) (P Q : T → Type 0) → ((x : T) → P x → Q x) → IfOk r P → IfOk r Q
ok_then (Ok x) P Q so p = so x p
ok_then (Err e) P Q so p = tt

both_then : {T E : Type 0} → (r : Result T E) (P Q S : T → Type 0) → ((x : T) → P x → Q x → S x) → IfOk r P → IfOk r Q → IfOk r S
both_then (Ok x) P Q S so p q = so x p q
both_then (Err e) P Q S so p q = tt

err_then : {T E : Type 0} → (r : Result T E) (P Q : E → Type 0) → ((e : E) → P e → Q e) → IfErr r P → IfErr r Q
err_then (Ok x) P Q so p = tt
err_then (Err e) P Q so p = so e p

pub finish_forest-requires-clause-workers : goal.finish_forest-requires-clause-workers
finish_forest-requires-clause-workers g c =
    subst (λ (n : ℕ). AllByRecursion (λ (row : Row). row.worker < n) c.args.rows.now)
    (sym c.in_ok-outcome.ensures.shared.returned) c.requires

pub finish_forest-requires-clause-trails : goal.finish_forest-requires-clause-trails
finish_forest-requires-clause-trails g c =
    let outcome = c.in_ok-outcome.outcome in
    let shared = c.in_ok-outcome.ensures.shared in
    subst (λ (n : ℕ). All (λ it. length it.trails.items ≡ n) outcome.workers.items) (ap length (sym shared.ranges)) shared.trails

pub finish_forest-requires-clause-promised : goal.finish_forest-requires-clause-promised
finish_forest-requires-clause-promised g c =
    let rows : List Row = c.args.rows.now in
    let workers = c.in_ok-outcome.outcome.workers.items in
    let shared = c.in_ok-outcome.ensures.shared in
    let plan = c.deref.result.now in
    let same = c.deref.ensures.value in
    let planned = subst (λ (p : List _). ArePlanned (map (λ acts. acts.items) p) rows) (sym same) c.in_ok-plan.ensures.planned in
    let many : length workers ≡ length (map (λ acts. acts.items) plan) =
    shared.returned ∙ (sym c.in_ok-plan.ensures.count ∙ (ap length (sym same) ∙ sym (length-map plan (λ acts. acts.items)))) in
    subst (λ (bounds : List ℕ). ByNumber (AsPromised bounds (λ it. it.output) (λ it. lists_of it.trails.items) rows) 0 workers)
    (sym shared.ranges)
    (as_planned _ (λ it. it.output) (λ it. lists_of it.trails.items) rows (map (λ acts. acts.items) plan) workers planned many
    shared.promised)

pub returns-clause-bounds : goal.returns-clause-bounds
returns-clause-bounds g c =
    let outcome = c.in_ok-outcome.outcome in
    let shared = c.in_ok-outcome.ensures.shared in
    ok_then c.finish_forest.result (λ (it : FinishedForest). it.forest ≡ outcome.forest)
    (λ (it : FinishedForest). AreOfSample (keys_of c.args.rows.now) c.args.trees it.forest.bounds)
    (λ it is. subst (λ (bounds : List ℕ). AreOfSample (keys_of c.args.rows.now) c.args.trees bounds)
    (sym (ap (λ (f : ForestValue). f.bounds) is ∙ shared.ranges)) c.in_ok-bounds.ensures)
    c.finish_forest.ensures.forest

pub returns-clause-closed : goal.returns-clause-closed
returns-clause-closed g c =
    let outcome = c.in_ok-outcome.outcome in
    let workers = outcome.workers.items in
    let shared = c.in_ok-outcome.ensures.shared in
    let added = λ (trail : Vec Receipt Global). trail.items in
    both_then c.finish_forest.result (λ (it : FinishedForest). it.forest ≡ outcome.forest)
    (λ (it : FinishedForest). sum_of (shares_at it) ≡ sum_of (map share_by (in_a_row (map (λ own. lists_of own.trails.items) workers))))
    (λ (it : FinishedForest). IsClosedForest c.args.config (shares_at it) it.forest)
    (λ it is shares. subst (λ (forest : ForestValue). IsClosedForest c.args.config (shares_at it) forest) (sym is)
    (closed_same c.args.config (shares_at it) (map share_by (trails_of added workers)) outcome.forest
    (shares ∙ ap (λ (ts : List (List Receipt)). sum_of (map share_by ts)) (sym (trails_in_rows added workers))) shared.closed))
    c.finish_forest.ensures.forest c.finish_forest.ensures.shares

pub returns-clause-legal : goal.returns-clause-legal
returns-clause-legal g c =
    let outcome = c.in_ok-outcome.outcome in
    both_then c.finish_forest.result (λ (it : FinishedForest). it.forest ≡ outcome.forest)
    (λ (it : FinishedForest). EachIsLegal outcome.forest.tables (trails_at it))
    (λ (it : FinishedForest). EachIsLegal it.forest.tables (trails_at it))
    (λ it is legal. subst (λ (forest : ForestValue). EachIsLegal forest.tables (trails_at it)) (sym is) legal)
    c.finish_forest.ensures.forest c.finish_forest.ensures.legal

pub returns-clause-trails : goal.returns-clause-trails
returns-clause-trails g c =
    let outcome = c.in_ok-outcome.outcome in
    both_then c.finish_forest.result (λ (it : FinishedForest). it.forest ≡ outcome.forest)
    (λ (it : FinishedForest). length it.trails.items ≡ length outcome.forest.bounds)
    (λ (it : FinishedForest). length it.trails.items ≡ length it.forest.bounds)
    (λ it is many. many ∙ ap (λ (forest : ForestValue). length forest.bounds) (sym is))
    c.finish_forest.ensures.forest c.finish_forest.ensures.trails

pub returns-clause-each : goal.returns-clause-each
returns-clause-each g c =
    let shared = c.in_ok-outcome.ensures.shared in
    ok_then c.finish_forest.result (λ (it : FinishedForest). All
    (λ its. length its.items ≡ length c.in_ok-outcome.outcome.workers.items) it.trails.items)
    (λ (it : FinishedForest). All (λ its. length its.items ≡ c.args.workers) it.trails.items)
    (λ it each. subst (λ (n : ℕ). All (λ its. length its.items ≡ n) it.trails.items) shared.returned each) c.finish_forest.ensures.each

pub returns-clause-reported : goal.returns-clause-reported
returns-clause-reported g c =
    let shared = c.in_ok-outcome.ensures.shared in
    ok_then c.finish_forest.result (TellsByTrees (length c.in_ok-outcome.outcome.workers.items) c.args.rows.now)
    (TellsByTrees c.args.workers c.args.rows.now)
    (λ it tells. subst (λ (n : ℕ). TellsByTrees n c.args.rows.now it) shared.returned tells) c.finish_forest.ensures.reported

pub returns-clause-fault : goal.returns-clause-fault
returns-clause-fault g c =
    let outcome = c.in_ok-outcome.outcome in
    let shared = c.in_ok-outcome.ensures.shared in
    let workers = outcome.workers.items in
    let n = length workers in
    let many = length outcome.forest.bounds in
    let rows_of = map (λ it. lists_of it.trails.items) workers in
    let trails = by_trees many rows_of in
    let few : length trails ≤ c.args.trees =
    omega (arith, length_by_trees many rows_of, ap length shared.ranges, c.in_ok-bounds.ensures.at_quantiles.few) in
    let have = have_trails many workers
    (subst (λ (k : ℕ). All (λ it. length it.trails.items ≡ k) workers) (ap length (sym shared.ranges)) shared.trails) in
    let each = subst (λ (k : ℕ). All (λ (its : List (List Receipt)). length its ≡ k) trails)
    (length-map workers (λ it. lists_of it.trails.items)) (each_by_trees many rows_of have) in
    err_then c.finish_forest.result (EndsForest n c.args.rows.now outcome.forest.tables trails)
    (IsForestRunFault c.args.config c.args.workers c.args.trees c.args.rows.now)
    (λ fault ends. forest_ends c.args.rows.now outcome.forest.tables trails c.args.config c.args.workers c.args.trees n fault
    shared.returned (c.in_ok-check_crew.ensures.fine, search rules) few each ends) c.finish_forest.ensures.fault
