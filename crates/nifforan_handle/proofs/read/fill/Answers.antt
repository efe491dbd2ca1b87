use Rattle.std.proofs.Common.{slice_set, subst, ◌+◌, arith}
use Rattle.std.proofs.lemmas.List.{length-set}
use Rattle.bw_delta.specs.Slices.{list_of}
use Rattle.nifforan_handle.specs.declared.answer.Pair.{Pair}
use Rattle.nifforan_handle.proofs.Filling.{IsFilledUpto, one_upto, run_upto}
use Rattle.nifforan_handle.proofs.read.fill.Goals as goal

pub loop-count-preserved : goal.loop-count-preserved
loop-count-preserved c =
    let loop = c.loop-count in
    let pair : Pair = record { key = c.in-Some.key; value = c.in-Some.value } in
    let run = list_of c.take_run-run.result in
    let one = one_upto c.args.places.now loop.places c.args.left.now loop.left loop.count loop.invariant
    c.next.new.self c.in-Some.key c.in-Some.value c.in-Some.ensures.steps c.loop-count-test.true in
    let long = length-set loop.places loop.count pair in
    subst (IsFilledUpto c.args.places.now c.write_run.new.places c.args.left.now c.take_run-run.new.self) (omega (arith, c.len-count.ensures))
    (run_upto c.args.places.now (slice_set loop.places loop.count pair) c.args.left.now c.next.new.self (loop.count + 1) one
    c.write_run.new.places run c.take_run-run.new.self c.take_run-run.ensures.taken
    c.write_run.auto.places (omega (arith, c.take_run-run.ensures.few, long, c.loop-count-test.true)) c.write_run.ensures.written c.write_run.ensures.rest)
