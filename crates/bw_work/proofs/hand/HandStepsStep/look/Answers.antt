use Rattle.std.proofs.Common.{refl}
use Rattle.bw_work.proofs.Sharing.{looks_sum}
use Rattle.bw_work.proofs.hand.HandStepsStep.look.Goals as goal

pub returns-clause-follows : goal.returns-clause-follows
returns-clause-follows g c =
    (rw (c.looked.ensures, c.reserve.ensures.seen) (looks_sum c.args.keep c.args.key c.look-look.result c.args.self.now.account.seen.trail c.args.self.now.share), refl)

pub returns-clause-seen : goal.returns-clause-seen
returns-clause-seen g c = rw (c.looked.ensures, c.reserve.ensures.seen) (record { config = refl; full = refl; tall = refl; worn = refl }, refl, refl)
