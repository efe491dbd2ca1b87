use Rattle.std.proofs.Common.{arith}
use Rattle.bw_procedures.specs.declared.act.Act.TheVariants as acts
use Rattle.bw_texts.specs.declared.trace.row.Row.{Row}
use Rattle.bw_run.proofs.Numbers.{own_passed, other_passed}
use Rattle.bw_run.proofs.stopping.row_number.Goals.{then-rows-place+else-left-eq0, else-rows-place}
use Rattle.bw_run.proofs.stopping.row_number.Goals as goal

pub loop-place-preserved : goal.loop-place-preserved
loop-place-preserved c =
    let d : Row = record { worker = 0; act = acts.Put 0 0 } in
    elim c.if-rows-place.branch [
      | then-rows-place+else-left-eq0 w ↦
          let passed = own_passed c.args.worker c.args.rows.now c.loop-place.place d c.loop-place-test.true w.if-rows-place.true in
          record { before = omega (arith, passed.before, c.loop-place.invariant.before, w.left-is, w.if-left-eq0.false); behind = omega (arith, passed.behind, c.loop-place.invariant.behind, w.left-is, w.if-left-eq0.false) }
      | else-rows-place w ↦
          let passed = other_passed c.args.worker c.args.rows.now c.loop-place.place d c.loop-place-test.true w.if-rows-place.false in
          record { before = omega (arith, passed.before, c.loop-place.invariant.before, w.left-is); behind = omega (arith, passed.behind, c.loop-place.invariant.behind, w.left-is) }
    ]
