use Rattle.std.specs.Prelude.{Option, Some, None, MatchOption, IfSome, IfNone, HoldsAt}
use Rattle.std.specs.Borrow.{Bor}
use Rattle.std.proofs.Common.{◌≡◌, ℕ, ◌<◌, ◌≤◌, List, length}
use Rattle.std.proofs.lemmas.List.{get_or_past}
use Rattle.bw_law.specs.Slots.{SlotValue, free_slot, slot_in}
use Rattle.bw_table.proofs.table.Table.slot.Goals as goal

there : {R : Type 0} (now : R → SlotValue) (found : Option R) (slots : List SlotValue) (page : ℕ)
    → MatchOption found (length slots ≤ page) (λ slot. (page < length slots) × HoldsAt (λ s. now slot ≡ s) slots page)
    → IfSome found (λ slot. now slot ≡ slot_in slots page)
there now (Some slot) slots page at = at.1 (free_slot 0)
there now None slots page at = tt

past_the_end : {R : Type 0} (P : R → Type 0) (found : Option R) (slots : List SlotValue) (page : ℕ)
    → MatchOption found (length slots ≤ page) P → IfNone found (slot_in slots page ≡ free_slot 0)
past_the_end P (Some slot) slots page past = tt
past_the_end P None slots page past = get_or_past slots page (free_slot 0) past

pub returns-clause-there : goal.returns-clause-there
returns-clause-there g c =
    let is : c.deref.result.now ≡ c.args.self.now.slots = rw (← c.self.view_is) c.deref.ensures.value in
    there (λ (slot : Bor SlotValue). slot.now) c.get.result c.args.self.now.slots c.args.pid.0 (rw is at c.get.ensures.lookup.3)

pub returns-clause-nowhere : goal.returns-clause-nowhere
returns-clause-nowhere g c =
    let is : c.deref.result.now ≡ c.args.self.now.slots = rw (← c.self.view_is) c.deref.ensures.value in
    past_the_end _ c.get.result c.args.self.now.slots c.args.pid.0 (rw is at c.get.ensures.lookup.3)
