use Rattle.std.proofs.Common.{◌<◌, length, ap, ◌∙◌, arith}
use Rattle.std.specs.List.{remove}
use Rattle.bw_delta.proofs.Zips.{length-zip, zip-remove}
use Rattle.bw_delta.proofs.Runs.{take_moved}
use Rattle.bw_delta.proofs.entry_list.EntryList.remove.Goals as goal

pub returns : goal.returns
returns g c =
    let list = c.self.inside in
    let place = c.args.place in
    let inside : place < length list.keys.items = omega (arith, c.requires, ap length c.self.view_is, length-zip list.keys.items list.values.items c.self.invariant) in
    rw (
      take_moved list.keys place c.move_down.new.keys c.take_last-key.new.self.items c.take_last-key.result inside (rw c.as_mut_slice.ensures.value at c.move_down.ensures.keys) c.take_last-key.ensures.items,
      take_moved list.values place c.move_down.new.values c.take_last-value.new.self.items c.take_last-value.result (omega (arith, c.self.invariant, inside)) (rw c.as_mut_slice-2.ensures.value at c.move_down.ensures.values) c.take_last-value.ensures.items,
    )
    (zip-remove place list.keys.items list.values.items c.self.invariant ∙ ap (λ es. remove es place) c.self.view_is)
