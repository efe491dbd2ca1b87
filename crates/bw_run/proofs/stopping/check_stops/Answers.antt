use Rattle.std.proofs.Common.{rules, ◌≡◌, ◌+◌, None, get_or, take, subst, sym, arith}
use Rattle.std.proofs.lemmas.List.{take_more}
use Rattle.std.proofs.lemmas.List.Elements.{All-push}
use Rattle.bw_run.specs.Answers.{StopsIn}
use Rattle.bw_run.specs.Rows.{acts_of}
use Rattle.bw_run.proofs.Answering.{by_number_at}
use Rattle.bw_run.proofs.stopping.check_stops.Goals as goal

pub check_stop-requires : goal.check_stop-requires
check_stop-requires g c =
    let each = c.index-answers-worker.result in
    let at : get_or c.args.answers.now c.loop-worker.worker each ≡ each = search rules in
    let place = c.loop-worker.worker in
    let same : 0 + place ≡ place = omega arith in
    let here = by_number_at (λ worker. StopsIn g.L.Looks.may_close (acts_of worker c.args.rows.now)) 0 c.args.answers.now place each c.requires c.loop-worker-test.true in
    subst (λ worker. StopsIn g.L.Looks.may_close (acts_of worker c.args.rows.now) each) same (subst (λ it. StopsIn g.L.Looks.may_close (acts_of (0 + place) c.args.rows.now) it) at here)

pub loop-worker-preserved : goal.loop-worker-preserved
loop-worker-preserved g c =
    let each = c.index-answers-worker.result in
    let at : get_or c.args.answers.now c.loop-worker.worker each ≡ each = search rules in
    rw (take_more c.args.answers.now c.loop-worker.worker each c.loop-worker-test.true)
    (All-push (λ it. it.stop ≡ None) (take c.loop-worker.worker c.args.answers.now) (get_or c.args.answers.now c.loop-worker.worker each) c.loop-worker.invariant (subst (λ it. it.stop ≡ None) (sym at) c.in_ok-check_stop.ensures.none))
