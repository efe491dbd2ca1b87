use Rattle.std.proofs.Common.{◌≡◌, None}
use Rattle.bw_keys.specs.Ranges.{end_of}
use Rattle.nifforan.proofs.Changes.{clears}
use Rattle.nifforan.proofs.Clearing.{lost_count}
use Rattle.nifforan.proofs.map.Map.clear_in_room.Goals as goal

pub returns-clause-clears : goal.returns-clause-clears
returns-clause-clears g c =
    let old = c.self.inside.worker.owner.table.value in
    let new = c.clear.new.self.owner.table.value in
    let removed = c.clear.result.removed in
    let was = c.self.invariant in
    let is = c.clear.ensures.ready in
    let low = c.args.low in
    let end = end_of c.args.high in
    let count = lost_count low end removed old new was.lawful was.booked is.lawful is.booked c.clear.ensures.loses in
    rw (← c.self.view_is) (clears old new was.lawful is.lawful low end removed c.clear.ensures.loses (c.clear.result.fault ≡ None) c.clear.ensures.cleared count)
