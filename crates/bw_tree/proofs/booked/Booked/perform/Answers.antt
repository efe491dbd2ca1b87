use Rattle.std.proofs.Common.{sym}
use Rattle.bw_table.proofs.Reports.{performed_reports}
use Rattle.bw_tree.proofs.AtOnce.{performed_counts}
use Rattle.bw_tree.proofs.booked.Booked.perform.Goals as goal

pub invariant_of-self-2 : goal.invariant_of-self-2
invariant_of-self-2 g c =
    let it = c.in_ok-done.done in
    let old = c.self.invariant in
    let kept = performed_counts _ _ it c.args.action c.in_ok-done.ensures.done g.I.MadeBy.config _ (old.0, old.1) in
    rw c.count.ensures.stock (kept.0, kept.1, old.2)

pub returns-clause-reports : goal.returns-clause-reports
returns-clause-reports g c = performed_reports _ _ c.in_ok-done.done c.args.action c.in_ok-done.ensures.done

pub returns-clause-done : goal.returns-clause-done
returns-clause-done g c = rw (sym c.self.view_is) c.in_ok-done.ensures.done
