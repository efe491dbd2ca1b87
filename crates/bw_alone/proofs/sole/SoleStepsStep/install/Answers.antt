use Rattle.std.proofs.Common.{rules, refl}
use Rattle.bw_step.specs.ProposalView.{proposal_of}
use Rattle.bw_law.proofs.TakenSteps.{config_kept, is_reported}
use Rattle.bw_alone.proofs.Following.{step_leads}
use Rattle.bw_alone.proofs.sole.SoleStepsStep.install.Goals as goal

pub returns-in-Ok-clause-follows : goal.returns-in-Ok-clause-follows
returns-in-Ok-clause-follows g c =
    let old = g.H.Holds.value c.args.self.now.table in
    let new = g.H.Holds.value c.with.new.self in
    let step = proposal_of c.args.step in
    let law = c.law.ensures in
    let taken = c.in-Ok.ensures.done.taken in
    record {
      place = c.with.ensures.same;
      config = config_kept old new step c.in-Ok.receipt taken;
      leads = rw (c.accepted.ensures.seen, c.reserve.ensures.seen) (step_leads old step c.in-Ok.receipt new c.args.self.now.account.seen.trail law.lawful law.booked (search rules) taken);
    }

pub returns-in-Ok-clause-seen : goal.returns-in-Ok-clause-seen
returns-in-Ok-clause-seen g c =
    rw (c.accepted.ensures.seen, c.reserve.ensures.seen) (record {
      reported = is_reported _ _ _ _ c.in-Ok.ensures.done.taken;
      counts = record { config = refl; full = refl; tall = refl; worn = refl };
      trail = refl;
      effort = refl;
    })
