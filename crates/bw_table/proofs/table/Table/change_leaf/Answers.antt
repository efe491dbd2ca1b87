use Rattle.std.proofs.Common.{inl, inr}
use Rattle.bw_table.proofs.Undone.{no_leaf_is_changed, none_unless}
use Rattle.bw_table.proofs.table.Table.change_leaf.Goals as goal

pub returns-in_err-slot-clause-undone : goal.returns-in_err-slot-clause-undone
returns-in_err-slot-clause-undone g c =
    rw c.from_residual.ensures (inl (no_leaf_is_changed c.args.self.now c.args.page.0 c.args.key c.in_err-slot.ensures.nowhere))

pub returns-then-not-is_posted_leaf-clause-undone : goal.returns-then-not-is_posted_leaf-clause-undone
returns-then-not-is_posted_leaf-clause-undone g c =
    inl (rw c.in_ok-slot.ensures.there at (c.is_posted_leaf.ensures.unfit c.if-not-is_posted_leaf.true))

pub returns-clause-undone : goal.returns-clause-undone
returns-clause-undone g c = none_unless c.change_at_rest.result inr c.change_at_rest.ensures.memory
