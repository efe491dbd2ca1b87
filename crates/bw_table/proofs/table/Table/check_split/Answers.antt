use Rattle.std.proofs.Common.{Bool, refl, ◌∙◌}
use Rattle.std.specs.Prelude.{option_copied}
use Rattle.bw_keys.specs.Reasons.{first_reason}
use Rattle.bw_law.specs.Refusals.{split_reasons}
use Rattle.bw_law.specs.Slots.{SlotValue}
use Rattle.bw_table.specs.Answers.{fine_unless}
use Rattle.bw_table.proofs.Whole.{by_new_slot}
use Rattle.bw_table.proofs.table.Table.check_split.Goals as goal

pub returns : goal.returns
returns g c =
    let step = c.args.step.now in
    by_new_slot c.args.self.now (option_copied c.new_slot.result) c.may_split.result
    (λ (new : SlotValue) (no_room : Bool). fine_unless (first_reason (split_reasons c.in-Some.slot.now new c.is_leaving_at-child_leaving.result no_room step.seen.0 step.separator step.base)))
    c.new_slot.ensures c.may_split.ensures
    ∙ rw (c.is_leaving_at-child_leaving.ensures, c.in-Some.ensures.there) refl
