use Rattle.std.proofs.Common.{refl, ap, sym, ◌∙◌}
use Rattle.bw_keys.specs.declared.page.Pid.{Pid}
use Rattle.bw_law.specs.Slots.{SlotValue}
use Rattle.bw_law.specs.Tables.{slot_at}
use Rattle.bw_table.proofs.Actions.{consolidated}
use Rattle.bw_table.proofs.Consolidating.{anew_is_accepted, anew_is_refused, as_it_is_accepted}
use Rattle.bw_table.proofs.table.Table.perform_consolidation.Goals as goal

pub consolidate-receipt-requires : goal.consolidate-receipt-requires
consolidate-receipt-requires g c =
    let fine = rw c.in-Some.ensures.there at c.in_default-may_be_made_anew.ensures in
    anew_is_accepted c.args.self.now c.args.page.0 c.args.seen.0 _ c.slot.ensures.lawful fine c.in-Ok.ensures.made

pub returns : goal.returns
returns g c =
    let fine = rw c.in-Some.ensures.there at c.in_default-may_be_made_anew.ensures in
    let accepted = anew_is_accepted c.args.self.now c.args.page.0 c.args.seen.0 _ c.slot.ensures.lawful fine c.in-Ok.ensures.made in
    let reported = c.performed.ensures in
    let new = c.consolidate-receipt.new.self in
    record {
      done = record {
        finds = (reported.page, reported.key ∙ c.low-key.ensures ∙ ap (λ (s : SlotValue). s.low) c.in-Some.ensures.there);
        takes = consolidated c.args.self.now new c.performed.result c.args.page.0 c.args.seen.0 _ _ reported.receipt accepted c.consolidate-receipt.ensures;
        count = reported.count ∙ ap (λ (p : Pid). (slot_at new p.0).count) (sym reported.page);
        depth = reported.depth ∙ ap (λ (p : Pid). (slot_at new p.0).depth) (sym reported.page);
      };
      why = tt;
      unchanged = tt;
    }

pub returns-in-Err : goal.returns-in-Err
returns-in-Err g c =
    let reason = anew_is_refused c.args.self.now c.args.page.0 c.args.seen.0 c.slot.ensures.lawful c.in-Err.reason (rw c.in-Some.ensures.there at c.in-Err.ensures) in
    record { done = tt; why = reason; unchanged = refl }

pub returns-in-Err-NoMemory : goal.returns-in-Err-NoMemory
returns-in-Err-NoMemory g c =
    let accepted = as_it_is_accepted c.args.self.now c.args.page.0 c.args.seen.0 c.slot.ensures.lawful (rw c.in-Some.ensures.there at c.in_default-may_be_made_anew.ensures) in
    record { done = tt; why = accepted; unchanged = refl }
