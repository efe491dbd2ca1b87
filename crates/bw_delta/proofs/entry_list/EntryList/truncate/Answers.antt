use Rattle.std.proofs.Common.{take, ap, ◌∙◌}
use Rattle.bw_delta.proofs.Zips.{take-zip}
use Rattle.bw_delta.proofs.entry_list.EntryList.truncate.Goals as goal

pub returns : goal.returns
returns g c =
    let list = c.self.inside in
    rw (c.truncate.ensures.items, c.truncate-2.ensures.items) (take-zip c.args.count list.keys.items list.values.items ∙ ap (take c.args.count) c.self.view_is)
