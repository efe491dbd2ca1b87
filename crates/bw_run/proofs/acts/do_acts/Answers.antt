use Rattle.std.proofs.Common.{◌≡◌, length, arith}
use Rattle.bw_procedures.specs.declared.act.Act.{Act}
use Rattle.bw_procedures.specs.declared.act.Act.TheVariants as acts
use Rattle.bw_step.specs.Tellings.{reported_in}
use Rattle.bw_procedures.proofs.Receipts.{go_more}
use Rattle.bw_run.proofs.acts.do_acts.Goals as goal

pub loop-act-preserved : goal.loop-act-preserved
loop-act-preserved g c =
    let d : Act = acts.Put 0 0 in
    let inv = c.loop-act.invariant in
    let adds = c.in_ok-reply.ensures.reported in
    let at : length c.loop-act.replies.items ≡ c.loop-act.act-index = omega (arith, c.loop-act.replies.ok, inv.count) in
    record {
      reported = rw (c.push_reserved.ensures.items, adds.trail)
          (go_more c.args.acts.now c.loop-act.replies.items (reported_in (g.W.Steps.seen c.loop-act.hand).trail) c.in_ok-reply.reply c.loop-act.act-index d adds.added at c.loop-act-test.true inv.reported adds.answers);
      count = omega (arith, c.push_reserved.ensures.len, inv.count);
      room = omega (arith, c.push_reserved.ensures.capacity, inv.room);
    }
