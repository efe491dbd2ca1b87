use Rattle.std.proofs.Common.{rules, ◌<◌}
use Rattle.bw_forest.proofs.Quantiles.{bounds_at_end, no_more, one_more}
use Rattle.bw_forest.proofs.bounds.quantiles.Goals as goal
use Rattle.bw_forest.proofs.bounds.quantiles.Goals.{then-last-low, else-last-low}

pub loop-i-preserved : goal.loop-i-preserved
loop-i-preserved c =
    let inv = c.loop-i.invariant in
    let up = c.requires.sorted in
    let less : c.loop-i.i < c.args.trees = search rules in
    elim c.if-last-low.branch [
      | then-last-low w ↦
          let pushed = w.push_reserved-then-last-low.ensures in
          let more = one_more _ _ _ _ _ up less inv.so c.quantile-low.result c.quantile-low.ensures w.if-last-low.true in
          rw (w.lows-is, w.last-is) (record { so = rw pushed.items more; room = rw pushed.capacity inv.room })
      | else-last-low w ↦
          let same = no_more _ _ _ _ _ up less inv.so c.quantile-low.result c.quantile-low.ensures w.if-last-low.false in
          rw (w.lows-is, w.last-is) (record { so = same; room = inv.room })
    ]

pub returns-clause-bounds : goal.returns-clause-bounds
returns-clause-bounds c = bounds_at_end _ _ _ _ _ c.requires.number (search rules) c.loop-i.invariant.so
