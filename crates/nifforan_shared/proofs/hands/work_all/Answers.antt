use Rattle.bw_crew.proofs.Workers.{all_as_promised, by_number_of}
use Rattle.nifforan_shared.proofs.hands.work_all.Goals as goal

pub run_all-requires-clause-given : goal.run_all-requires-clause-given
run_all-requires-clause-given g c κs within =
    by_number_of (g.J.Task.given c.args.task.now) (λ seat. seat.kit) 0 c.in_ok-seats.seats.items c.args.kits.items
    c.in_ok-seats.ensures.kits c.requires.given

pub returns-clause-promised : goal.returns-clause-promised
returns-clause-promised g c =
    all_as_promised g.L.Trail.added (g.J.Task.promised c.args.task.now) (λ worked. worked.output) (λ worked. worked.hands.seen.trail)
    c.in_ok-worked.worked.items c.gather.result.outputs.items c.gather.result.trails.items c.gather.ensures.outputs
    c.gather.ensures.trails c.in_ok-worked.ensures.promised
