use Rattle.std.proofs.Common.{◌<◌, length, set, get_or, ap, ◌∙◌, arith}
use Rattle.bw_delta.proofs.Zips.{length-zip, zip-set_value}
use Rattle.bw_delta.proofs.entry_list.EntryList.set_value.Goals as goal

pub index_mut-requires : goal.index_mut-requires
index_mut-requires g c =
    let list = c.self.inside in
    omega (arith, c.requires, ap length c.self.view_is, length-zip list.keys.items list.values.items c.self.invariant, list.values.ok)

pub returns : goal.returns
returns g c d =
    let list = c.self.inside in
    let inside : c.args.place < length list.keys.items = omega (arith, c.requires, ap length c.self.view_is, length-zip list.keys.items list.values.items c.self.invariant) in
    zip-set_value c.args.place c.args.value d list.keys.items list.values.items c.self.invariant inside
    ∙ ap (λ es. set es c.args.place ((get_or es c.args.place d).0, c.args.value)) c.self.view_is
