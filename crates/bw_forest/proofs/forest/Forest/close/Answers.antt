use Rattle.std.proofs.Common.{rules, ◌≡◌, ◌≢◌, ◌↔◌, ◌*◌, ℕ, length, ap, refl, sym, ◌∙◌}
use Rattle.std.specs.Prelude.{Result, Ok, Err, IsOk, OnOk}
use Rattle.bw_tree.specs.Stocks.{TotalsValue, fresh}
use Rattle.bw_forest.specs.declared.fault.ForestFault.TheVariants.{MissingShare, OtherRange}
use Rattle.bw_tree.specs.Shares.{sum_of}
use Rattle.bw_forest.specs.Forests.{ComesApart, ForestValue, HasForestMap, IsClosedForest, books_of, tables_of}
use Rattle.bw_forest.proofs.Closing.{all_pairs, comes_apart, if_err, if_ok}
use Rattle.bw_forest.proofs.forest.Forest.close.Goals as goal

if_done : {A B P : Type 0} (done : Result A B) → IsOk done → OnOk done P → P
if_done (Ok it) ok is = is
if_done (Err why) ok is = absurd (cc ok)

-- as many shares as the workers have at all trees
as_many : {before after : TotalsValue} {trees bounds back : ℕ} {counted : _} → after ≡ record before { back = back; counted = counted }
    → before ≡ fresh trees before.workers → trees ≡ bounds → after.workers * after.trees ≡ before.workers * bounds
as_many now began each =
    let workers = ap (λ (t : TotalsValue). t.workers) now in
    let many = ap (λ (t : TotalsValue). t.trees) now ∙ (ap (λ (t : TotalsValue). t.trees) began ∙ each) in
    λ j. workers j * many j

pub returns-clause-closed : goal.returns-clause-closed
returns-clause-closed g c =
    let fell = c.fell-trees.ensures in
    let tables = tables_of c.fell-trees.result.items in
    let sum : sum_of (books_of tables) ≡ sum_of c.args.shares.items =
    sym (ap (λ (t : TotalsValue). t.counted) fell.back) ∙ if_done c.close.result c.if-is_err.ensures.negation c.close.ensures.sum in
    if_ok (λ (closed : ForestValue). closed.tables ≡ tables) (λ (closed : ForestValue). HasForestMap closed.tables)
    (IsClosedForest g.I.MadeBy.config c.args.shares.items) c.closed.result
    (λ closed is map. record {
      trees = rw is fell.trees;
      config = rw is fell.config;
      one_map = map;
      books = rw is sum;
      pairs = rw is (all_pairs tables c.args.shares.items fell.trees sum);
    })
    c.closed.ensures.tables c.closed.ensures.map

pub returns-clause-back : goal.returns-clause-back
returns-clause-back g c =
    let trees = c.fell-trees.result.items in
    let bounds = c.args.self.bounds in
    let count : length trees ≡ length bounds = search rules in
    let fell = c.fell-trees.ensures in
    if_err (λ it. (it.bounds ≡ bounds) × (it.trees.items ≡ trees)) (λ it. ComesApart bounds g.I.MadeBy.config it.bounds it.trees.items)
    c.closed.result
    (λ it is. comes_apart bounds g.I.MadeBy.config trees count fell.trees fell.within fell.config it.bounds it.trees.items is.0 is.1)
    c.closed.ensures.back

pub returns-clause-whole : goal.returns-clause-whole
returns-clause-whole g c = λ _.
    c.close.ensures.all.0 c.if-is_err.ensures.negation ∙ as_many c.fell-trees.ensures.back c.args.self.counted c.args.self.each

pub returns-clause-missing : goal.returns-clause-missing
returns-clause-missing g c =
    let size = as_many c.fell-trees.ensures.back c.args.self.counted c.args.self.each in
    let whole = c.close.ensures.all.0 c.if-is_err.ensures.negation ∙ size in
    if_err (λ it. it.fault ≡ OtherRange) (λ it. (it.fault ≡ MissingShare)
    ↔ (length c.args.shares.items ≢ c.args.self.totals.workers * length c.args.self.bounds)) c.closed.result
    (λ it other. ((λ missing. absurd (cc (sym missing ∙ other))), (λ unlike. absurd (unlike whole)))) c.closed.ensures.fault

pub returns-then-is_err-clause-missing : goal.returns-then-is_err-clause-missing
returns-then-is_err-clause-missing g c =
    let size = as_many c.fell-trees.ensures.back c.args.self.counted c.args.self.each in
    ((λ _ whole. absurd (cc (sym (c.close.ensures.all.1 (whole ∙ sym size)) ∙ c.if-is_err.ensures.negation))), (λ _. refl))
