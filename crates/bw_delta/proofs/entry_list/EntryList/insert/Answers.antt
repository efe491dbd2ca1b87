use Rattle.std.proofs.Common.{◌≡◌, ◌≤◌, [], ◌∷◌, ◌++◌, length, ap, ◌∙◌, refl, arith}
use Rattle.std.specs.List.{insert}
use Rattle.bw_delta.proofs.Zips.{length-zip, zip-insert}
use Rattle.bw_delta.proofs.Runs.{put_moved}
use Rattle.bw_delta.proofs.entry_list.EntryList.insert.Goals as goal

pub returns-clause-inserted : goal.returns-clause-inserted
returns-clause-inserted g c =
    let list = c.self.inside in
    let place = c.args.place in
    let keys = list.keys.items in
    let values = list.values.items in
    let inside : place ≤ length keys = omega (arith, c.requires, ap length c.self.view_is, length-zip keys values c.self.invariant) in
    let key = c.args.key in
    let value = c.args.value in
    let more_keys : c.push_reserved.new.self.items ≡ keys ++ key ∷ [] = rw (c.push_reserved.ensures.items, c.make_room.ensures.items) refl in
    let more_values : c.push_reserved-2.new.self.items ≡ values ++ value ∷ [] =
    rw (c.push_reserved-2.ensures.items, c.make_room-2.ensures.items) refl in
    let inside_values : place ≤ length values = omega (arith, c.self.invariant, inside) in
    let raised_keys = rw c.as_mut_slice-keys.ensures.value at c.move_up.ensures.keys in
    let raised_values = rw c.as_mut_slice-values.ensures.value at c.move_up.ensures.values in
    rw (
      put_moved c.push_reserved.new.self place c.move_up.new.keys key keys more_keys inside raised_keys,
      put_moved c.push_reserved-2.new.self place c.move_up.new.values value values more_values inside_values raised_values,
    )
    (zip-insert place key value keys values c.self.invariant ∙ ap (λ es. insert es place (key, value)) c.self.view_is)
