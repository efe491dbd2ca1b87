use Rattle.bw_alone.proofs.InPlaces.{split_leads, split_keeps_config, split_is_seen}
use Rattle.bw_alone.proofs.sole.SoleStepsStep.split_at_once.Goals as goal

pub returns-clause-follows : goal.returns-clause-follows
returns-clause-follows g c =
    let it = c.in_ok-new in
    let law = c.law.ensures in
    let number = c.first_to_go-number.result in
    record {
      place = c.with.ensures.same;
      config = split_keeps_config _ _ c.args.parent.0 c.args.page.pid.0 number it.new it.posted it.ensures.done.done;
      leads = rw (c.split_at_once.ensures, c.reserve_four.ensures.seen)
          (split_leads _ _ c.args.parent.0 c.args.page.pid.0 number it.new it.posted c.args.self.now.account.seen.trail law.lawful law.booked it.ensures.done.done);
    }

pub returns-clause-seen : goal.returns-clause-seen
returns-clause-seen g c =
    let it = c.in_ok-new in
    rw c.reserve_four.ensures.seen at (split_is_seen c.args.page.pid c.args.parent it.new c.reserve_four.new.self.seen _ it.posted c.split_at_once.ensures)
