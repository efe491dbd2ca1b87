use Rattle.bw_table.proofs.Gets.{leaf_has}
use Rattle.bw_table.proofs.table.Table.get.Goals as goal

pub returns : goal.returns
returns g c = leaf_has c.args.self.now c.args.key c.page_for.result.0 c.slot_in_row.result.now c.find.result c.page_for.ensures.lawful c.page_for.ensures.leaf c.slot_in_row.ensures.there c.find.ensures
