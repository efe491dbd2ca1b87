use Rattle.std.proofs.Common.{◌≡◌, ◌∷◌, ◌<◌, ◌++◌, ◌+◌, ℕ, List, [], ◌∙◌, ap, sym, drop, take, get_or, length, map, arith, length-take-le, length-append}
use Rattle.std.specs.Prelude.{slice_set}
use Rattle.std.proofs.lemmas.List.{drop_more, get_or-map, length-set, take_more}
use Rattle.bw_procedures.specs.declared.act.Act.TheVariants as acts
use Rattle.bw_texts.specs.declared.trace.row.Row.{Row}
use Rattle.bw_run.specs.Rows.{acts_of}
use Rattle.bw_run.proofs.Plans.{taken_from}
use Rattle.bw_run.proofs.Merges.{own_step, full_step, own_act}
use Rattle.bw_run.proofs.merging.merge.Goals as goal

pub unreachable-requires : goal.unreachable-requires
unreachable-requires c =
    let d : Row = record { worker = 0; act = acts.Put 0 0 } in
    let place = c.loop-row.row-index in
    let row : Row = get_or c.args.rows.now place d in
    let split : drop place c.args.rows.now ≡ row ∷ drop (place + 1) c.args.rows.now = drop_more c.args.rows.now place d c.loop-row-test.true in
    let own = (rw split at c.loop-row.invariant.workers).0 in
    let full = c.loop-row.invariant.full row.worker own ∙ ap (λ (rest : List Row). length (acts_of row.worker rest)) split in
    let there = get_or-map (λ column. column.rest.items) c.loop-row.columns.items row.worker c.index_mut.result.now [] own in
    let same = ap (λ column. column.rest.items) c.index_mut.ensures.value in
    let some : 0 < length c.index_mut.result.now.rest.items =
    omega (arith, full, own_act row (drop (place + 1) c.args.rows.now), ap length there, ap length same) in
    omega (arith, some, c.index_mut.result.now.rest.ok.0, c.in_default.ensures.cases.0)

pub loop-row-preserved : goal.loop-row-preserved
loop-row-preserved c =
    let d : Row = record { worker = 0; act = acts.Put 0 0 } in
    let rows : List Row = c.args.rows.now in
    let place = c.loop-row.row-index in
    let row : Row = get_or rows place d in
    let rest : List Row = drop (place + 1) rows in
    let split : drop place rows ≡ row ∷ rest = drop_more rows place d c.loop-row-test.true in
    let more : take (place + 1) rows ≡ take place rows ++ row ∷ [] = take_more rows place d c.loop-row-test.true in
    let inv = c.loop-row.invariant in
    let own = rw split at inv.workers in
    let columns = c.loop-row.columns.items in
    let after = slice_set columns row.worker c.next.new.self in
    let reply = c.in-Some.reply in
    let count = length-set columns row.worker c.next.new.self in
    let taken = taken_from (λ column. column.rest.items) columns row.worker c.index_mut.result.now c.next.new.self reply own.0
    (ap (λ column. column.rest.items) (sym c.index_mut.ensures.value) ∙ c.in-Some.ensures.items) in
    let same : length c.loop-row.merged.items ≡ length (take place rows) = inv.count ∙ sym (length-take-le place rows (omega arith)) in
    let here = λ (worker : ℕ). get_or (map (λ column. column.rest.items) c.loop-row.columns.items) worker [] in
    let left = λ (worker : ℕ). get_or (map (λ column. column.rest.items) after) worker [] in
    record {
      count = ap length c.in_ok-push.ensures.items ∙ omega (arith, inv.count, length-append c.loop-row.merged.items (reply ∷ []));
      workers = rw count own.1;
      same = count ∙ inv.same;
      full = λ worker inside.
          full_step worker row rest reply (here worker) (left worker) (taken worker)
          (inv.full worker (omega (arith, inside, count)) ∙ ap (λ (rs : List Row). length (acts_of worker rs)) split);
      own = λ worker inside.
          rw (more, c.in_ok-push.ensures.items)
          (own_step worker (take place rows) row c.loop-row.merged.items reply (here worker) (left worker) same (taken worker)
          ∙ inv.own worker (omega (arith, inside, count)));
    }
