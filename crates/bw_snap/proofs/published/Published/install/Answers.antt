use Rattle.std.proofs.Common.{ap, ◌∙◌, ◌++◌, ◌∷◌, []}
use Rattle.bw_step.specs.Proposals.{Proposal}
use Rattle.bw_step.specs.ProposalView.{proposal_of}
use Rattle.bw_snap.specs.declared.note.Note.TheVariants.{Step}
use Rattle.bw_snap.specs.Trees.{PublishedValue}
use Rattle.bw_snap.proofs.Notes.{lags_on, pending_on}
use Rattle.bw_snap.proofs.published.Published.install.Goals as goal

pub invariant_of-self-in-Ok : goal.invariant_of-self-in-Ok
invariant_of-self-in-Ok g c =
    let new = c.install.new.self in
    let twin = Step c.args.twin ∷ [] in
    let step : Proposal = proposal_of c.args.step in
    rw (c.note_step.ensures.desk, c.in_ok-note_step.ensures.notes)
    (lags_on c.self.invariant twin (step ∷ []) (ap (λ (p : Proposal). p ∷ []) c.requires) new (rw c.table.ensures.same at c.in_ok-note_step.ensures.taken, c.in-Ok.ensures.taken.leads))

pub returns-in-Ok-clause-steps : goal.returns-in-Ok-clause-steps
returns-in-Ok-clause-steps g c =
    let twin = Step c.args.twin ∷ [] in
    let step : Proposal = proposal_of c.args.step in
    rw (c.note_step.ensures.desk, c.in_ok-note_step.ensures.notes)
    (pending_on c.self.invariant twin (step ∷ []) (ap (λ (p : Proposal). p ∷ []) c.requires) ∙ ap (λ (h : PublishedValue). h.pending ++ step ∷ []) c.self.view_is)
