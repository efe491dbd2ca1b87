use Rattle.bw_alone.proofs.InPlaces.{merge_leads, merge_keeps_config, merge_is_seen}
use Rattle.bw_alone.proofs.sole.SoleStepsStep.merge_at_once.Goals as goal

pub returns-clause-follows : goal.returns-clause-follows
returns-clause-follows g c =
    let it = c.in_ok-left in
    let law = c.law.ensures in
    record {
      place = c.with.ensures.same;
      config = merge_keeps_config _ _ c.args.parent.0 c.args.page.pid.0 it.left it.ensures.done.done;
      leads = rw (c.merged_at_once.ensures, c.reserve_five.ensures.seen)
          (merge_leads _ _ c.args.parent.0 c.args.page.pid.0 it.left it.ensures.done.done c.args.self.now.account.seen.trail law.lawful law.booked);
    }

pub returns-clause-seen : goal.returns-clause-seen
returns-clause-seen g c =
    let it = c.in_ok-left in
    rw c.reserve_five.ensures.seen at (merge_is_seen c.args.page.pid c.args.parent it.left c.reserve_five.new.self.seen _ c.merged_at_once.ensures)
