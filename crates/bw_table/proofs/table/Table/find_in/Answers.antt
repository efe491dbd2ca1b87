use Rattle.bw_table.proofs.Gets.{leaf_has}
use Rattle.bw_table.proofs.table.Table.find_in.Goals as goal

pub returns : goal.returns
returns g c = leaf_has c.args.self.now c.args.key c.args.leaf.0 c.slot_in_row.result.now c.find.result c.slot_in_row.ensures.lawful c.requires c.slot_in_row.ensures.there c.find.ensures
