use Rattle.std.proofs.Common.{length, ap, arith}
use Rattle.bw_delta.proofs.Zips.{length-zip}
use Rattle.bw_delta.proofs.entry_list.EntryList.len.Goals as goal

pub returns : goal.returns
returns g c =
    let list = c.self.inside in
    omega (arith, c.len.ensures, ap length c.self.view_is, length-zip list.keys.items list.values.items c.self.invariant, list.keys.ok)
