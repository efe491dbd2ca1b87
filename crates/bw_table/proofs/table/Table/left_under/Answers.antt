use Rattle.bw_table.proofs.Undone.{no_page_merges, no_parent_merges}
use Rattle.bw_table.proofs.table.Table.left_under.Goals as goal

pub returns-in_err-slot-clause-none : goal.returns-in_err-slot-clause-none
returns-in_err-slot-clause-none g c =
    rw c.from_residual.ensures (no_page_merges c.args.self.now c.args.parent.0 c.args.page.0 c.in_err-slot.ensures.nowhere)

pub returns-in_err-over-clause-none : goal.returns-in_err-over-clause-none
returns-in_err-over-clause-none g c =
    rw c.from_residual-in_err-over.ensures (no_parent_merges c.args.self.now c.args.parent.0 c.args.page.0 c.in_err-over.ensures.nowhere)
