use Rattle.std.proofs.Common.{arith}
use Rattle.bw_table.proofs.Gets.{page_leads_on}
use Rattle.bw_table.proofs.table.Table.onward.Goals as goal

pub returns : goal.returns
returns g c = page_leads_on c.args.self.now c.slot_in_row.ensures.lawful c.args.key (omega arith) c.args.page c.requires c.slot_in_row.result.now c.next_page.result c.slot_in_row.ensures.there c.next_page.ensures
