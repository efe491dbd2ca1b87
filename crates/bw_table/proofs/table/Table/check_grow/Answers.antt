use Rattle.std.proofs.Common.{Bool, refl, ◌∙◌}
use Rattle.std.specs.Prelude.{option_copied}
use Rattle.bw_keys.specs.Reasons.{first_reason}
use Rattle.bw_law.specs.Refusals.{grow_reasons, root_page}
use Rattle.bw_law.specs.Slots.{SlotValue}
use Rattle.bw_table.specs.Answers.{fine_unless}
use Rattle.bw_table.proofs.Whole.{by_new_slot}
use Rattle.bw_table.proofs.table.Table.check_grow.Goals as goal

pub returns : goal.returns
returns g c =
    let step = c.args.step.now in
    let under = c.in-Some.under.now in
    by_new_slot c.args.self.now (option_copied c.new_slot.result) c.may_grow.result
    (λ (new : SlotValue) (no_room : Bool). fine_unless (first_reason (grow_reasons under c.root_slot.result.now new no_room step.seen.0 step.base (root_page c.self.inside.root under.low step.child.0))))
    c.new_slot.ensures c.may_grow.ensures
    ∙ rw (c.root_slot.ensures, c.in-Some.ensures.there, ← c.self.view_is) refl
