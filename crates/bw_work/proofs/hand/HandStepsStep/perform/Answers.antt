use Rattle.std.proofs.Common.{refl}
use Rattle.bw_procedures.proofs.Performing.{performs}
use Rattle.bw_work.proofs.Sharing.{performed_sums, unperformed_sums}
use Rattle.bw_work.proofs.hand.HandStepsStep.perform.Goals as goal

pub returns-in-Ok-clause-follows : goal.returns-in-Ok-clause-follows
returns-in-Ok-clause-follows g c =
    (rw (c.performed.ensures, c.reserve_for.ensures.seen) (performed_sums c.args.action c.in-Ok.done c.args.self.now.account.seen.trail _ _ c.in-Ok.ensures.share), refl)

pub returns-in-Ok-clause-seen : goal.returns-in-Ok-clause-seen
returns-in-Ok-clause-seen g c =
    rw (c.performed.ensures, c.reserve_for.ensures.seen) (performs c.args.action c.in-Ok.done _ c.in-Ok.ensures.reports)

pub returns-in-Err-clause-follows : goal.returns-in-Err-clause-follows
returns-in-Err-clause-follows g c =
    (unperformed_sums c.args.action c.in-Err.why c.args.self.now.account.seen _ _ _ (rw c.reserve_for.ensures.seen at c.unperformed.ensures) c.in-Err.ensures.share, refl)
