use Rattle.std.proofs.Common.{◌<◌, length, sym, ◌∙◌, arith}
use Rattle.nifforan.proofs.Rooms.{full_still}
use Rattle.nifforan_handle.proofs.Bulk.{set_next}
use Rattle.nifforan_handle.proofs.fill.set_each.Goals as goal

pub loop-number-preserved : goal.loop-number-preserved
loop-number-preserved c =
    let loop = c.loop-number in
    let so_far = loop.invariant in
    let done = c.in-Ok.ensures in
    let now = c.set.new.self in
    let inside : loop.number < length c.args.pairs.now = omega (arith, loop.auto.number-end, c.loop-number-test.true) in (
      set_next c.args.pairs.now loop.number (record { key = 0; value = 0 }) c.args.map.now.pairs loop.map.pairs now.pairs
          inside so_far.0 done.sets.1,
      done.config ∙ so_far.1,
      λ is. full_still loop.fault c.in-Ok.done.fault loop.map now so_far.2 done.full done.pages done.config
          (sym c.or-fault.ensures ∙ is),
    )
