use Rattle.std.proofs.Common.{◌≡◌, ◌∷◌, ◌++◌, ◌+◌, ◌<◌, List, length, arith, [], ◌∙◌, ap, sym, drop, get_or, map}
use Rattle.std.specs.Prelude.{slice_set}
use Rattle.std.proofs.lemmas.List.{drop_more, length-set}
use Rattle.bw_procedures.specs.declared.act.Act.TheVariants as acts
use Rattle.bw_texts.specs.declared.trace.row.Row.{Row}
use Rattle.bw_run.specs.Rows.{acts_of}
use Rattle.bw_run.proofs.Plans.{plan_step, put_on}
use Rattle.bw_run.proofs.plan.share_out.Goals as goal

pub loop-row-preserved : goal.loop-row-preserved
loop-row-preserved c =
    let d : Row = record { worker = 0; act = acts.Put 0 0 } in
    let row : Row = get_or c.args.rows.now c.loop-row.row-index d in
    let split : drop c.loop-row.row-index c.args.rows.now ≡ row ∷ drop (c.loop-row.row-index + 1) c.args.rows.now = drop_more c.args.rows.now c.loop-row.row-index d c.loop-row-test.true in
    let own = rw split at c.loop-row.invariant.own in
    let inside : row.worker < length c.loop-row.plan.items = omega (arith, own.0, c.loop-row.invariant.count) in
    let adds = put_on (λ acts. acts.items) c.loop-row.plan.items row.worker c.index_mut.result.now c.push.new.self row.act inside
    (c.in_ok-push.ensures.items ∙ ap (λ acts. acts.items ++ row.act ∷ []) c.index_mut.ensures.value) in
    record {
      count = length-set c.loop-row.plan.items row.worker c.push.new.self ∙ c.loop-row.invariant.count;
      own = own.1;
      planned = λ worker.
          plan_step (map (λ acts. acts.items) c.loop-row.plan.items)
          (map (λ acts. acts.items) (slice_set c.loop-row.plan.items row.worker c.push.new.self)) row
          (drop (c.loop-row.row-index + 1) c.args.rows.now) worker (adds worker)
          ∙ (ap (λ (rest : List Row). get_or (map (λ acts. acts.items) c.loop-row.plan.items) worker [] ++ acts_of worker rest) (sym split) ∙ c.loop-row.invariant.planned worker);
    }
