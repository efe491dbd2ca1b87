-- What is done with a table that is held.
use Rattle.std.specs.Prelude.{◌≡◌, ◌↔◌, ℕ, Bool, Option, Some, None, Result, IsOk, IfOk, IfErr, OnErr, IfSome, IfNone}
use Rattle.bw_keys.specs.declared.page.Pid.{Pid}
use Rattle.bw_step.specs.Proposals.{Proposal}
use Rattle.bw_step.specs.declared.action.Action.{Action}
use Rattle.bw_step.specs.declared.action.Performed.{Performed}
use Rattle.bw_step.specs.declared.action.Unperformed.{Unperformed}
use Rattle.bw_step.specs.declared.receipt.Receipt.{Receipt}
use Rattle.bw_step.specs.declared.refused.Refused.{Refused}
use Rattle.bw_law.specs.Effects.{TakesStep}
use Rattle.bw_law.specs.Refusals.{refusal}
use Rattle.bw_law.specs.Tables.{TableValue}
use Rattle.bw_table.specs.Actions.{IsPerformed, IsWhyNot}
use Rattle.bw_table.specs.InPlaces.{IsMergedUnder, IsSplitUnder}

-- the step was taken exactly where there is no reason to refuse it, and otherwise the table is as it was
pub record Installs (step : Proposal) (old : TableValue) (answer : Result Receipt Refused) (new : TableValue) : Type 0 where
  pub accepted : IsOk answer ↔ (refusal old step ≡ None)
  pub taken : IfOk answer (λ receipt. TakesStep old step receipt new)
  pub refused : IfErr answer (λ reason. refusal old step ≡ Some reason)
  pub unchanged : OnErr answer (new ≡ old)

-- the action was performed, or there is a reason why not, and then the table is as it was
pub record Performs (action : Action) (old : TableValue) (answer : Result Performed Unperformed) (new : TableValue) : Type 0 where
  pub done : IfOk answer (IsPerformed old action new)
  pub why : IfErr answer (IsWhyNot old action)
  pub unchanged : OnErr answer (new ≡ old)

-- the page was split under its parent, or nothing was done
pub record Splits (parent page number : ℕ) (old : TableValue) (answer : Option (Pid × Bool)) (new : TableValue) : Type 0 where
  pub done : IfSome answer (λ it. IsSplitUnder old parent page number it.0 it.1 new)
  pub unchanged : IfNone answer (new ≡ old)

-- the page was merged under its parent into the left one, or nothing was done
pub record Merges (parent page : ℕ) (old : TableValue) (answer : Option Pid) (new : TableValue) : Type 0 where
  pub done : IfSome answer (λ left. IsMergedUnder old parent page left new)
  pub unchanged : IfNone answer (new ≡ old)
