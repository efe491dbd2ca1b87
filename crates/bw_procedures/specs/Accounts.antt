-- What contracts see of a worker's account, and what each of its methods makes of that.
use Rattle.std.specs.Prelude.{ℕ, List, [], ◌∷◌, ◌++◌, length, Option, Result}
use Rattle.bw_step.specs.declared.action.Action.{Action}
use Rattle.bw_step.specs.declared.action.Performed.{Performed}
use Rattle.bw_step.specs.declared.fault.CopyFault.{CopyFault}
use Rattle.bw_step.specs.declared.place.Go.{Go}
use Rattle.bw_step.specs.declared.receipt.Receipt.{Receipt}
use Rattle.bw_step.specs.declared.refused.Refused.{Refused}
use Rattle.bw_step.specs.declared.view.Look.{Look}
use Rattle.bw_procedures.specs.declared.steps.Keep.{Keep}
use Rattle.bw_procedures.specs.Seen.{Seen, one_more, visit_effort, look_effort, trail_after_look, copy_effort, receipt_effort, full_after, tall_after, worn_after}
use Rattle.bw_procedures.specs.Calls.{raised}
use Rattle.bw_procedures.specs.Actions.{receipts_of, effort_with}

-- the worker, and for how many receipts its trail has room
pub record AccountValue : Type 0 where
  pub seen : Seen
  pub room : ℕ

-- after an action that was performed
abbrev pub after_performed : Action → Performed → Seen → Seen
after_performed action done seen = record seen { trail = seen.trail ++ receipts_of action done; effort = effort_with (receipts_of action done) seen.effort }

-- after steps that change only the tree's shape, each at the cost of one effort
abbrev pub after_shapes : List Receipt → Seen → Seen
after_shapes receipts seen = record seen { trail = seen.trail ++ receipts; effort = raised (length receipts) seen.effort }

-- after a visit of a place
abbrev pub after_visit : Go → Seen → Seen
after_visit go seen = record seen { effort = visit_effort go seen.effort }

-- after a look for the key
abbrev pub after_look : Keep → ℕ → Option Look → Seen → Seen
after_look keep key look seen = record seen { trail = trail_after_look keep key look seen.trail; effort = look_effort look seen.effort }

-- after a page was copied, or made anew
abbrev pub after_copy : {C : Type 0} → Result C CopyFault → Seen → Seen
after_copy copy seen = record seen { effort = copy_effort copy seen.effort }

-- after an accepted step
abbrev pub after_receipt : Receipt → Seen → Seen
after_receipt receipt seen = record seen { trail = seen.trail ++ receipt ∷ []; effort = receipt_effort receipt seen.effort }

-- after a refused step
abbrev pub after_refusal : Refused → Seen → Seen
after_refusal reason seen = record seen {
  effort = one_more seen.effort;
  full = full_after reason seen.full;
  tall = tall_after reason seen.tall;
  worn = worn_after reason seen.worn;
}
