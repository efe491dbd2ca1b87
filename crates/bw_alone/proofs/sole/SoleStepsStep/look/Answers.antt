use Rattle.std.proofs.Common.{refl, sym}
use Rattle.bw_alone.proofs.Following.{looks_lead}
use Rattle.bw_alone.proofs.sole.SoleStepsStep.look.Goals as goal

pub returns-clause-follows : goal.returns-clause-follows
returns-clause-follows g c =
    let seen = rw c.get.ensures at c.look-look.ensures.look in
    let table = g.H.Holds.value c.args.self.now.table in
    record {
      place = g.met.H.Holds.stays c.args.self.now.table;
      config = refl;
      leads = rw (c.looked.ensures, c.reserve.ensures.seen)
          (looks_lead table c.args.pid.0 c.args.key c.args.keep c.look-look.result c.args.self.now.account.seen.trail c.law.ensures.lawful (sym seen));
    }
