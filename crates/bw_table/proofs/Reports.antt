-- What was performed reports itself: for a key by the receipt of the record which is wished, or of the look where there is none.
use Rattle.std.proofs.Common.{◌≡◌, ℕ, suc, List, [], ◌∷◌, Option, Some, None, unwrap_or, refl, sym, ap, subst, ◌∙◌}
use Rattle.std.specs.Prelude.{option_to_list}
use Rattle.bw_keys.specs.declared.wished.Wished.{Wished}
use Rattle.bw_keys.specs.declared.wished.Wished.TheVariants as wishes
use Rattle.bw_step.specs.Actions.{IsReceiptOfReshaping, IsReceiptOfWish, Reports, receipt_of_wish}
use Rattle.bw_step.specs.declared.action.Action.{Action}
use Rattle.bw_step.specs.declared.action.Action.TheVariants as actions
use Rattle.bw_step.specs.declared.action.Performed.{Performed}
use Rattle.bw_step.specs.declared.action.Reshaping.{Reshaping}
use Rattle.bw_step.specs.declared.action.Reshaping.TheVariants as reshapings
use Rattle.bw_step.specs.declared.receipt.Receipt.TheVariants.{Looked, Modified, Deleted}
use Rattle.bw_step.specs.Proposals.{Proposal}
use Rattle.bw_law.specs.Effects.{pid, receipt_of}
use Rattle.bw_law.specs.Refusals.{new_id}
use Rattle.bw_law.specs.Tables.{TableValue, slot_at, number_of}
use Rattle.bw_table.specs.Actions.{IsPerformed, Takes, consolidated_behind, had_at, look_at, reshaping, wished_step}
use Rattle.bw_table.specs.InPlaces.{step_for}

module _ (old new : TableValue) (it : Performed) where
  -- the receipt is that of the step, or of a look where there is none
  abbrev IsOf : Option Proposal → Type 0
  IsOf None = it.receipt ≡ look_at old it.page.0 it.key
  IsOf (Some step) = it.receipt ≡ receipt_of old step

  -- the steps begin with this one, if it is there, and otherwise there are none
  abbrev BeginsWith : (Option Proposal → List Proposal) → Type 0
  BeginsWith steps = (steps None ≡ []) × ((step : Proposal) → (behind : List Proposal) × (steps (Some step) ≡ step ∷ behind))

  of_steps : (step : Option Proposal) (steps : Option Proposal → List Proposal) → BeginsWith steps → Takes old it new (steps step) → IsOf step
  of_steps None steps begins done = (subst (Takes old it new) begins.0 done).0
  of_steps (Some step) steps begins done = let turn = subst (Takes old it new) (begins.1 step).1 done in turn.2.reported

  -- the step for what was found at the key
  abbrev step_at : ℕ → Wished → Option ℕ → Option Proposal
  step_at key wished had = step_for it.page.0 (slot_at old it.page.0).version key wished had

  of_record : (wished : Wished) (had : Option ℕ) → had ≡ had_at old it.page.0 it.key → IsOf (step_at it.key wished had)
      → it.receipt ≡ receipt_of_wish (number_of old.book) it.key wished had
  of_record (wishes.Put value) None is of = of
  of_record (wishes.Put value) (Some had) is of = of ∙ ap (Looked (number_of old.book) it.key) (sym is)
  of_record (wishes.Set value) None is of = of
  of_record (wishes.Set value) (Some had) is of = of ∙ ap (λ h. Modified (suc (number_of old.book)) it.key (unwrap_or h 0) value) (sym is)
  of_record wishes.Delete None is of = of ∙ ap (Looked (number_of old.book) it.key) (sym is)
  of_record wishes.Delete (Some had) is of = of ∙ ap (λ h. Deleted (suc (number_of old.book)) it.key (unwrap_or h 0)) (sym is)

  -- steps for the key that was found, if there is anything to do, report the wish
  wish_reports : (key : ℕ) (wished : Wished) (steps : Option Proposal → List Proposal) → it.key ≡ key → BeginsWith steps
      → Takes old it new (steps (wished_step old it.page.0 key wished)) → (it.key ≡ key) × IsReceiptOfWish key wished it.receipt
  wish_reports key wished steps found begins done =
      let Taken : ℕ → Type 0 = λ k. Takes old it new (steps (wished_step old it.page.0 k wished)) in
      let there = had_at old it.page.0 it.key in
      let first = of_steps (wished_step old it.page.0 it.key wished) steps begins (subst Taken (sym found) done) in
      let Reported : ℕ → Type 0 = λ k. IsReceiptOfWish k wished it.receipt in
      (found, subst Reported found (number_of old.book, there, of_record wished there refl first))

  -- a page that was named reports how it was reshaped
  reshaping_reports : (how : Reshaping) (page seen : ℕ) → it.receipt ≡ receipt_of old (reshaping old page seen how)
      → IsReceiptOfReshaping how (pid page) it.receipt
  reshaping_reports reshapings.Consolidate page seen reported = reported
  reshaping_reports reshapings.Halve page seen reported = (pid (new_id old), reported)

  pub performed_reports : (action : Action) → IsPerformed old action new it → Reports action it
  performed_reports (actions.Change key wished) done =
      wish_reports key wished (consolidated_behind old it.page.0) done.finds.1 (refl, λ step. (_, refl)) done.takes
  performed_reports (actions.Record key wished) done =
      wish_reports key wished option_to_list done.finds.1 (refl, λ step. (_, refl)) done.takes
  performed_reports (actions.Reshape page seen how) done =
      (done.finds.0, reshaping_reports how page.0 seen.0 done.takes.2.reported)
  performed_reports (actions.AddTerm child) done = done.takes.2.reported
  performed_reports (actions.Cut page seen) done = (done.finds.0, reshaping_reports reshapings.Halve page.0 seen.0 done.takes.2.reported)
  performed_reports (actions.Post child) done = done.takes.2.reported
