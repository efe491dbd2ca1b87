-- What a table performs keeps its book, as the steps do, one after the other.
use Rattle.std.proofs.Common.{◌≡◌, List, [], ◌∷◌, fold, refl, sym, ap, subst, ◌∙◌}
use Rattle.bw_keys.specs.declared.config.Config.{Config}
use Rattle.bw_keys.specs.declared.page.Pid.{Pid}
use Rattle.bw_step.specs.declared.receipt.Receipt.{Receipt}
use Rattle.bw_step.specs.Proposals.{Proposal}
use Rattle.bw_law.specs.Runs.{TakesInTurn}
use Rattle.bw_law.specs.Tables.{TableValue}
use Rattle.bw_law.proofs.TakenSteps.{config_kept}
use Rattle.bw_table.specs.Actions.{IsPerformed, Takes, steps_for, with_receipts}
use Rattle.bw_step.specs.declared.action.Action.{Action}
use Rattle.bw_step.specs.declared.action.Performed.{Performed}
use Rattle.bw_tree.specs.Shares.{ShareValue, counted}
use Rattle.bw_tree.specs.Trees.{IsBookOf}
use Rattle.bw_tree.proofs.Trees.{book_kept}

-- what is kept of a tree: its book, and its configuration
abbrev pub IsKept : Config → TableValue → ShareValue → Type 0
IsKept made table totals = IsBookOf table totals × (table.config ≡ made)

-- each of the steps taken is counted
counts_in_turn : (steps : List (Proposal × Receipt)) (old new : TableValue) (made : Config) (totals : ShareValue)
    → IsKept made old totals → TakesInTurn old steps new → IsKept made new (fold (λ share (taken : Proposal × Receipt). counted share taken.1) totals steps)
counts_in_turn [] old new made totals kept turn = subst (λ t. IsKept made t totals) (sym turn) kept
counts_in_turn (taken ∷ rest) old new made totals kept turn =
    counts_in_turn rest turn.0 new made (counted totals taken.1)
    (book_kept old turn.0 taken.0 taken.1 totals (counted totals taken.1) kept.0 turn.1 turn.2 refl, config_kept old turn.0 taken.0 taken.1 turn.2 ∙ kept.1) turn.3

-- consolidations count for nothing
behind_counts : (page : Pid) (steps : List Proposal) (totals : ShareValue) → fold (λ share (taken : Proposal × Receipt). counted share taken.1) totals (with_receipts page steps) ≡ totals
behind_counts page [] totals = refl
behind_counts page (step ∷ steps) totals = behind_counts page steps totals

module _ (old new : TableValue) (it : Performed) where
  takes_count : (made : Config) (totals : ShareValue) → IsKept made old totals → (steps : List Proposal) → Takes old it new steps → IsKept made new (counted totals it.receipt)
  takes_count made totals kept [] done =
      subst (λ t. IsKept made t (counted totals it.receipt)) (sym done.1) (subst (IsKept made old) (sym (ap (counted totals) done.0)) kept)
  takes_count made totals kept (step ∷ behind) done =
      subst (IsKept made new) (behind_counts it.page behind (counted totals it.receipt))
      (counts_in_turn ((step, it.receipt) ∷ with_receipts it.page behind) old new made totals kept done)

  -- what was performed counts by its receipt
  pub performed_counts : (action : Action) → IsPerformed old action new it → (made : Config) (totals : ShareValue) → IsKept made old totals → IsKept made new (counted totals it.receipt)
  performed_counts action done made totals kept = takes_count made totals kept (steps_for old it.page.0 action) done.takes
