use Rattle.bw_keys.specs.Ranges.{end_of}
use Rattle.bw_delta.specs.Slices.{list_of}
use Rattle.bw_table.proofs.Orders.{appends_leaf}
use Rattle.bw_table.proofs.table.Table.read_leaf.Goals as goal

pub returns-then-append_first-clause-read : goal.returns-then-append_first-clause-read
returns-then-append_first-clause-read g c =
    rw c.high.ensures
    (appends_leaf c.args.self.now c.page_for.ensures.lawful c.args.key c.page_for.result.0 (end_of c.args.high) c.args.limit
    c.slot_in_row-slot.result.now c.page_for.ensures.leaf c.slot_in_row-slot.ensures.there (list_of c.in_ok-pairs.pairs) _ _
    c.in_ok-pairs.ensures.all c.append_first.ensures.counted (c.append_first.ensures.appended c.if-append_first.true))
