use Rattle.bw_alone.proofs.Removals.{cleared_map, swept_gone}
use Rattle.bw_alone.proofs.sole.Sole.clear.Goals as goal

pub returns-clause-map : goal.returns-clause-map
returns-clause-map g c ended =
    let call = c.clear.ensures in
    let reported = call.receipts in
    cleared_map _ _ _ _ _ _ reported.added call.follows.leads reported.trail reported.removals
    (λ key value above below.
    let swept = call.swept ended key above below in
    swept_gone _ _ swept.low swept.end key value swept.pairs _ _ _ _ _ _ reported.added swept.added swept.before.leads swept.after.leads swept.shown swept.from_low swept.below_end
    reported.trail reported.removals swept.since swept.gone)
