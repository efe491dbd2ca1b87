use Rattle.std.proofs.Common.{◌∙◌, ap}
use Rattle.bw_delta.specs.Entries.{at}
use Rattle.bw_law.specs.Slots.{routes_in}
use Rattle.bw_table.proofs.RowWalk.{down_from_start}
use Rattle.bw_table.proofs.table.Table.first_child.Goals as goal

pub returns : goal.returns
returns g c =
    let down = down_from_start c.args.self.now c.page.ensures.lawful c.args.page.0 c.route_at.result c.requires (c.route_at.ensures ∙ ap (λ slot. at 0 (routes_in slot)) c.page.ensures.there) in
    record { first = down.first; down = down.down; leaf = down.leaf }
