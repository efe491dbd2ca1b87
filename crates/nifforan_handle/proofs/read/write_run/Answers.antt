use Rattle.std.proofs.Common.{◌<◌, length, arith}
use Rattle.bw_delta.specs.Slices.{list_of}
use Rattle.nifforan_handle.proofs.Filling.{one_written}
use Rattle.nifforan_handle.proofs.read.write_run.Goals as goal

pub loop-number-preserved : goal.loop-number-preserved
loop-number-preserved c =
    let loop = c.loop-number in
    let run = list_of c.args.run in
    let inside : loop.number < length run = omega (arith, c.loop-number-test.true, c.len-number-end.ensures) in
    one_written c.args.places.now loop.places run c.args.first loop.number loop.invariant c.entry-key.result.0 c.entry-key.result.1
    c.entry-key.ensures inside (omega (arith, inside, c.requires.room, loop.auto.places))
