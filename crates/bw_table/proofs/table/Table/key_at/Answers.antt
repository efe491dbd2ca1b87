use Rattle.bw_table.proofs.Undone.{no_page_is_split, none_is_split, none_unless}
use Rattle.bw_table.proofs.table.Table.key_at.Goals as goal

pub returns-in_err-slot-clause-missing : goal.returns-in_err-slot-clause-missing
returns-in_err-slot-clause-missing g c =
    rw c.from_residual.ensures (no_page_is_split c.args.self.now c.args.page.0 c.args.number c.in_err-slot.ensures.nowhere)

pub returns-clause-key : goal.returns-clause-key
returns-clause-key g c = rw c.in_ok-slot.ensures.there at c.key_at.ensures.key

pub returns-clause-missing : goal.returns-clause-missing
returns-clause-missing g c =
    let missing = rw c.in_ok-slot.ensures.there at c.key_at.ensures.missing in
    none_unless c.key_at.result (none_is_split c.args.self.now c.args.page.0 c.args.number c.slot.ensures.lawful) missing
