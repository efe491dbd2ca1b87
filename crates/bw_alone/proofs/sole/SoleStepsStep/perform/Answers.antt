use Rattle.std.proofs.Common.{[], ap, sym, ◌∙◌, append-nil}
use Rattle.bw_law.specs.Tables.{TableValue}
use Rattle.bw_table.proofs.Reports.{performed_reports}
use Rattle.bw_alone.proofs.InPlaces.{performed_leads, performed_keeps_config}
use Rattle.bw_procedures.proofs.Performing.{performs, unperformed_trail}
use Rattle.bw_alone.proofs.sole.SoleStepsStep.perform.Goals as goal

pub returns-in-Ok-clause-follows : goal.returns-in-Ok-clause-follows
returns-in-Ok-clause-follows g c =
    let it = c.in-Ok in
    let law = c.law.ensures in
    record {
      place = c.with.ensures.same;
      config = performed_keeps_config _ _ it.done c.args.action it.ensures.done.done;
      leads = rw (c.performed.ensures, c.reserve_for.ensures.seen)
          (performed_leads _ _ it.done c.args.self.now.account.seen.trail law.lawful law.booked c.args.action it.ensures.done.done);
    }

pub returns-in-Ok-clause-seen : goal.returns-in-Ok-clause-seen
returns-in-Ok-clause-seen g c =
    rw (c.performed.ensures, c.reserve_for.ensures.seen) (performs c.args.action c.in-Ok.done _ (performed_reports _ _ c.in-Ok.done c.args.action c.in-Ok.ensures.done.done))

pub returns-in-Err-clause-follows : goal.returns-in-Err-clause-follows
returns-in-Err-clause-follows g c =
    let same = unperformed_trail c.args.action c.in-Err.why _ _ c.unperformed.ensures in
    record {
      place = c.with.ensures.same;
      config = ap (λ (t : TableValue). t.config) c.in-Err.ensures.done.unchanged;
      leads = ([], (rw c.reserve_for.ensures.seen at same) ∙ sym (append-nil _), c.in-Err.ensures.done.unchanged);
    }
