use Rattle.std.proofs.Common.{rules, ◌≡◌, Bool, Some, None, Ok, Err, unwrap_or, ap, sym, subst, ◌∙◌}
use Rattle.std.specs.Prelude.{option_copied}
use Rattle.bw_keys.specs.Reasons.{first_reason}
use Rattle.bw_law.specs.Refusals.{refusal}
use Rattle.bw_law.specs.Slots.{SlotValue}
use Rattle.bw_table.specs.Answers.{fine_unless}
use Rattle.bw_table.specs.InPlaces.{half_reasons, halving, halving_reasons}
use Rattle.bw_table.proofs.Consolidating.{the_reason, none_at_all}
use Rattle.bw_table.proofs.Halving.{by_the_middle, halving_is_accepted}
use Rattle.bw_table.proofs.Whole.{by_new_slot}
use Rattle.bw_table.proofs.table.Table.page_to_halve.Goals as goal

pub returns-clause-accepted : goal.returns-clause-accepted
returns-clause-accepted g c =
    let table = c.args.self.now in
    let there = c.in-Some.ensures.there in
    let key = c.in-Some-middle_key.separator in
    let fine =
    by_new_slot table (option_copied c.new_slot.result) (Ok c.in_ok-may_halve.field-0)
    (λ (new : SlotValue) (no_room : Bool). fine_unless (first_reason (halving_reasons c.in-Some.slot.now new c.is_leaving_at-child_leaving.result no_room key)))
    c.new_slot.ensures c.in_ok-may_halve.ensures
    in
    let accepted = halving_is_accepted table c.args.page.0 c.args.seen.0 key c.slot.ensures.lawful (rw there at c.in_ok-check_open.ensures) (rw (c.is_leaving_at-child_leaving.ensures, there) at fine) in
    λ separator is. subst (λ s. refusal table (halving table c.args.page.0 c.args.seen.0 s) ≡ None) (ap (λ o. unwrap_or o 0) (sym c.in-Some-middle_key.ensures.key ∙ is)) accepted

pub returns-in_err-may_halve-clause-refused : goal.returns-in_err-may_halve-clause-refused
returns-in_err-may_halve-clause-refused g c =
    let table = c.args.self.now in
    let there = c.in-Some.ensures.there in
    let key = c.in-Some-middle_key.separator in
    let reason = c.in_err-may_halve.field-0.0 in
    let answer =
    by_new_slot table (option_copied c.new_slot.result) (Err reason)
    (λ (new : SlotValue) (no_room : Bool). fine_unless (first_reason (halving_reasons c.in-Some.slot.now new c.is_leaving_at-child_leaving.result no_room key)))
    c.new_slot.ensures c.in_err-may_halve.ensures
    in
    let its_page = rw there at c.in-Some-bare_page.ensures.page in
    let opens = rw there at c.in_ok-check_open.ensures in
    let bare = rw there at c.in-Some-bare_page.ensures.bare in
    let found = rw its_page at c.in-Some-middle_key.ensures in
    let refused : first_reason (half_reasons table c.args.page.0 c.args.seen.0) ≡ Some reason =
    the_reason reason _
    (by_the_middle table c.args.page.0 c.args.seen.0 c.slot.ensures.lawful opens bare key (Err reason) found.key found.small
    (rw (c.is_leaving_at-child_leaving.ensures, there) at answer))
    in
    search rules

pub returns-clause-fine : goal.returns-clause-fine
returns-clause-fine g c =
    let table = c.args.self.now in
    let there = c.in-Some.ensures.there in
    let key = c.in-Some-middle_key.separator in
    let answer =
    by_new_slot table (option_copied c.new_slot.result) (Ok c.in_ok-may_halve.field-0)
    (λ (new : SlotValue) (no_room : Bool). fine_unless (first_reason (halving_reasons c.in-Some.slot.now new c.is_leaving_at-child_leaving.result no_room key)))
    c.new_slot.ensures c.in_ok-may_halve.ensures
    in
    let its_page = rw there at c.in-Some-bare_page.ensures.page in
    let opens = rw there at c.in_ok-check_open.ensures in
    let bare = rw there at c.in-Some-bare_page.ensures.bare in
    let found = rw its_page at c.in-Some-middle_key.ensures in
    none_at_all _
    (by_the_middle table c.args.page.0 c.args.seen.0 c.slot.ensures.lawful opens bare key (Ok c.in_ok-may_halve.field-0) found.key found.small
    (rw (c.is_leaving_at-child_leaving.ensures, there) at answer))
