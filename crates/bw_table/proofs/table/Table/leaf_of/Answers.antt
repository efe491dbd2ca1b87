use Rattle.bw_table.proofs.Orders.{leaf_has_pairs_within}
use Rattle.bw_table.proofs.table.Table.leaf_of.Goals as goal

pub returns-clause-pairs : goal.returns-clause-pairs
returns-clause-pairs g c = leaf_has_pairs_within c.args.self.now c.page_for-pid.ensures.lawful c.args.key c.page_for-pid.result.0 c.slot_in_row.result.now c.page_for-pid.ensures.leaf c.slot_in_row.ensures.there
