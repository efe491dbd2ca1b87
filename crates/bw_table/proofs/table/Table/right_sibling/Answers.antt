use Rattle.std.proofs.Common.{◌≡◌, Some, sym, ap, ◌∙◌, arith}
use Rattle.bw_law.specs.Slots.{SlotValue}
use Rattle.bw_law.specs.Tables.{slot_at}
use Rattle.bw_law.proofs.Facts.{right_is_next}
use Rattle.bw_table.proofs.Orders.{right_sibling_is, is_not_last}
use Rattle.bw_table.proofs.table.Table.right_sibling.Goals as goal

pub slot_in_row-requires : goal.slot_in_row-requires
slot_in_row-requires g c =
    let link : (slot_at c.args.self.now c.args.pid.0).right ≡ Some c.in_ok-right.right =
    sym (c.right.ensures ∙ ap (λ (s : SlotValue). s.right) c.slot_in_row-leaf.ensures.there) ∙ c.in_ok-right.was in
    (right_is_next c.args.self.now c.slot_in_row-leaf.ensures.lawful c.args.pid.0 c.in_ok-right.right c.requires.in_row link).0

pub returns-clause-sibling : goal.returns-clause-sibling
returns-clause-sibling g c =
    let link : (slot_at c.args.self.now c.args.pid.0).right ≡ Some c.in_ok-right.right =
    sym (c.right.ensures ∙ ap (λ (s : SlotValue). s.right) c.slot_in_row-leaf.ensures.there) ∙ c.in_ok-right.was in
    right_sibling_is c.args.self.now c.slot_in_row-leaf.ensures.lawful c.args.pid.0 c.in_ok-right.right c.slot_in_row.result.now
    c.requires.in_row c.requires.leaf link c.slot_in_row.ensures.there

pub returns-clause-last : goal.returns-clause-last
returns-clause-last g c =
    let link : (slot_at c.args.self.now c.args.pid.0).right ≡ Some c.in_ok-right.right =
    sym (c.right.ensures ∙ ap (λ (s : SlotValue). s.right) c.slot_in_row-leaf.ensures.there) ∙ c.in_ok-right.was in
    let inside = is_not_last c.args.self.now c.slot_in_row-leaf.ensures.lawful c.args.pid.0 c.in_ok-right.right c.requires.in_row link in
    ((λ none. absurd (cc none)), (λ top. absurd (omega (arith, inside, top))))
