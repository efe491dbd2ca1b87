use Rattle.std.proofs.Common.{◌≡◌, length, arith}
use Rattle.bw_procedures.specs.declared.act.Act.{Act}
use Rattle.bw_procedures.specs.declared.act.Act.TheVariants as acts
use Rattle.bw_run.proofs.ForestTold.{tell_more}
use Rattle.bw_run.proofs.forest.acts.do_acts.Goals as goal

pub loop-act-preserved : goal.loop-act-preserved
loop-act-preserved g c =
    let d : Act = acts.Put 0 0 in
    let inv = c.loop-act.invariant in
    let at : length c.loop-act.replies.items ≡ c.loop-act.act-index = omega (arith, c.loop-act.replies.ok, inv.count) in
    record {
      told = rw c.push_reserved.ensures.items
          (tell_more g.H.ForestHand.bounds c.args.acts.now c.loop-act.replies.items _ _ _ c.in_ok-reply.reply c.loop-act.act-index d at
          c.loop-act-test.true inv.told c.in_ok-reply.ensures.told);
      count = omega (arith, c.push_reserved.ensures.len, inv.count);
      room = omega (arith, c.push_reserved.ensures.capacity, inv.room);
    }
