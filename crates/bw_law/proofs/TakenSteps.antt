-- What a step that a table took leaves: its receipt is that of the step, and the configuration is as it was. So it is for steps in turn.
use Rattle.std.proofs.Common.{◌≡◌, List, [], ◌∷◌, refl, ◌∙◌, ap}
use Rattle.bw_step.specs.declared.receipt.Receipt.{Receipt}
use Rattle.bw_step.specs.Proposals.{Proposal, insert, delete, modify, consolidate, split, term_add, grow, mark, merge, term_delete}
use Rattle.bw_step.specs.Steps.{IsReceiptOf}
use Rattle.bw_law.specs.Effects.{TakesStep, receipt_of, pid}
use Rattle.bw_law.specs.Refusals.{new_id}
use Rattle.bw_law.specs.Runs.{TakesInTurn}
use Rattle.bw_law.specs.Tables.{TableValue}

-- the receipt of an accepted step is that of the step
is_receipt : (table : TableValue) (step : Proposal) → IsReceiptOf step (receipt_of table step)
is_receipt table (insert page seen key value) = (refl, refl)
is_receipt table (delete page seen key) = refl
is_receipt table (modify page seen key value) = (refl, refl)
is_receipt table (consolidate page seen base) = (refl, refl, refl)
is_receipt table (split page seen separator base) = (refl, refl, pid (new_id table), refl)
is_receipt table (term_add parent parent_seen child child_seen) = (refl, refl, refl)
is_receipt table (grow child seen base) = (refl, refl)
is_receipt table (mark page seen parent) = (refl, refl, refl)
is_receipt table (merge left left_seen page page_seen) = (refl, refl, refl)
is_receipt table (term_delete parent parent_seen child child_seen) = (refl, refl, refl)

pub is_reported : (old new : TableValue) (step : Proposal) (receipt : Receipt) → TakesStep old step receipt new → IsReceiptOf step receipt
is_reported old new step receipt taken = rw taken.reported (is_receipt old step)

-- no step changes the configuration
pub config_kept : (old new : TableValue) (step : Proposal) (receipt : Receipt) → TakesStep old step receipt new → new.config ≡ old.config
config_kept old new step receipt taken = ap (λ (t : TableValue). t.config) taken.leads

pub turn_keeps_config : (steps : List (Proposal × Receipt)) (old new : TableValue) → TakesInTurn old steps new → new.config ≡ old.config
turn_keeps_config [] old new turn = ap (λ (t : TableValue). t.config) turn
turn_keeps_config (taken ∷ rest) old new turn = turn_keeps_config rest turn.0 new turn.3 ∙ config_kept old turn.0 taken.0 taken.1 turn.2
