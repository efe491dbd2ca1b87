use Rattle.std.proofs.Common.{arith}
use Rattle.bw_run.proofs.stopping.check_stop.Goals as goal

pub fault_of-requires : goal.fault_of-requires
fault_of-requires g c =
    let stops = c.requires c.in-Some.stop c.in-Some.is in
    omega (arith, stops.0, c.len.ensures, c.args.answers.now.replies.ok.0)

pub returns-in-Some-clause-fault : goal.returns-in-Some-clause-fault
returns-in-Some-clause-fault g c = λ workers inside. c.fault_of.ensures g.L.Looks.may_close workers (c.requires c.in-Some.stop c.in-Some.is).1 inside
