use Rattle.std.proofs.Common.{ap, subst, ◌∙◌, ◌++◌}
use Rattle.bw_table.specs.Actions.{IsPerformed, steps_for}
use Rattle.bw_snap.specs.Trees.{PublishedValue}
use Rattle.bw_snap.specs.Notes.{held_notes, held_note}
use Rattle.bw_snap.proofs.Notes.{lags_on, pending_on}
use Rattle.bw_snap.proofs.Changes.{performed_leads, note_stands}
use Rattle.bw_snap.proofs.published.Published.perform.Goals as goal

pub invariant_of-self-2 : goal.invariant_of-self-2
invariant_of-self-2 g c =
    let old = c.self.inside.booked in
    let new = c.perform.new.self in
    let it = c.in_ok-done.done in
    let is = c.in_ok-done.ensures.done in
    rw (c.settle.ensures.desk, c.in-Ok.ensures.all, c.note_of-self-inside.ensures) (lags_on c.self.invariant (held_notes (held_note it.page it.receipt c.args.action)) (steps_for old it.page.0 c.args.action) (note_stands old new it c.args.action is) new (performed_leads old new it c.args.action is))

pub returns-clause-steps : goal.returns-clause-steps
returns-clause-steps g c =
    let old = c.self.inside.booked in
    let new = c.perform.new.self in
    let it = c.in_ok-done.done in
    let is = c.in_ok-done.ensures.done in
    rw (c.settle.ensures.desk, c.in-Ok.ensures.all, c.note_of-self-inside.ensures) (pending_on c.self.invariant (held_notes (held_note it.page it.receipt c.args.action)) (steps_for old it.page.0 c.args.action) (note_stands old new it c.args.action is) ∙ ap (λ (h : PublishedValue). h.pending ++ steps_for h.table it.page.0 c.args.action) c.self.view_is)

pub returns-clause-done : goal.returns-clause-done
returns-clause-done g c =
    subst (λ (h : PublishedValue). IsPerformed h.table c.args.action c.perform.new.self c.in_ok-done.done) c.self.view_is c.in_ok-done.ensures.done
