use Rattle.bw_procedures.proofs.Writes.{reshapes_none}
use Rattle.std.proofs.Common.{arith}
use Rattle.bw_procedures.proofs.Rounds.{reshapes_then}
use Rattle.bw_procedures.proofs.Changing.{replied_by}
use Rattle.bw_procedures.proofs.Joining.{attempt_fails}
use Rattle.bw_procedures.proofs.writing.propose.Goals as goal

pub returns-in-Accepted-clause-attempts : goal.returns-in-Accepted-clause-attempts
returns-in-Accepted-clause-attempts g c =
    let offered = rw c.in-Accepted.is at (c.in_ok-receipt.ensures.change c.step_for.ensures.change) in
    ((c.in-Accepted.receipt, offered.1, replied_by c.args.key c.args.wished c.in-Accepted.receipt _ c.had.ensures (c.step_for.ensures.made _ offered.0)), offered.2)

pub returns-in_ok-consolidate-in-Refused-Deep-clause-attempts : goal.returns-in_ok-consolidate-in-Refused-Deep-clause-attempts
returns-in_ok-consolidate-in-Refused-Deep-clause-attempts g c =
    let offered = rw c.in-Refused-Deep.is at (c.in_ok-receipt.ensures.change c.step_for.ensures.change) in
    let anew = c.in_ok-consolidate-in-Refused-Deep.ensures.reshapes in
    (reshapes_then _ _ _ offered.0 anew.0, omega (arith, offered.1, anew.0.grows.effort))

pub returns-in-Refused : goal.returns-in-Refused
returns-in-Refused g c =
    let offered = rw c.in-Refused.is at (c.in_ok-receipt.ensures.change c.step_for.ensures.change) in
    record { follows = c.in_ok-receipt.ensures.follows; attempts = (offered.0, offered.1) }

pub returns-in_err-consolidate-in-Refused-Deep-clause-follows : goal.returns-in_err-consolidate-in-Refused-Deep-clause-follows
returns-in_err-consolidate-in-Refused-Deep-clause-follows g c = g.met.S.Steps.joins _ _ _ c.in_ok-receipt.ensures.follows c.in_err-consolidate-in-Refused-Deep.ensures.follows

pub returns-in_ok-consolidate-in-Refused-Deep-clause-follows : goal.returns-in_ok-consolidate-in-Refused-Deep-clause-follows
returns-in_ok-consolidate-in-Refused-Deep-clause-follows g c = g.met.S.Steps.joins _ _ _ c.in_ok-receipt.ensures.follows c.in_ok-consolidate-in-Refused-Deep.ensures.follows

pub returns-in_err-consolidate-in-Refused-Deep-clause-attempts : goal.returns-in_err-consolidate-in-Refused-Deep-clause-attempts
returns-in_err-consolidate-in-Refused-Deep-clause-attempts g c =
    let offered = rw c.in-Refused-Deep.is at (c.in_ok-receipt.ensures.change c.step_for.ensures.change) in
    attempt_fails _ _ _ _ _ _ _ _ c.from_residual-in_err-consolidate-in-Refused-Deep.ensures.1 offered.0 c.in_err-consolidate-in-Refused-Deep.ensures.reshapes

pub returns-in_err-receipt : goal.returns-in_err-receipt
returns-in_err-receipt g c = record { follows = c.in_err-receipt.ensures.follows; attempts = attempt_fails _ _ _ _ _ _ _ _ c.from_residual-in_err-receipt.ensures.1 (reshapes_none _) (c.in_err-receipt.ensures.change c.step_for.ensures.change) }

pub returns-in-Refused-Worn : goal.returns-in-Refused-Worn
returns-in-Refused-Worn g c =
    let offered = rw c.in-Refused-Worn.is at (c.in_ok-receipt.ensures.change c.step_for.ensures.change) in
    let rose = rw c.in-Refused-Worn.field-0-is at (rw c.in-Refused-Worn.is at c.in_ok-receipt.ensures.counts) in
    record { follows = c.in_ok-receipt.ensures.follows; attempts = (offered.0, rose) }
