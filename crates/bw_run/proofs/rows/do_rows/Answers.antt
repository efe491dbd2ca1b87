use denote.Param.Send.{sendable}
use Rattle.std.proofs.Common.{◌≡◌, IfErr, ℕ, length, subst, ◌∙◌, arith}
use Rattle.std.proofs.Crossing.{crosses}
use Rattle.bw_step.specs.Trails.{lists_of}
use Rattle.bw_run.specs.Faults.{StopsWithin}
use Rattle.bw_run.proofs.Answering.{all_answered, stops_reported}
use Rattle.bw_run.proofs.rows.do_rows.Goals as goal

pub check_stops-requires : goal.check_stops-requires
check_stops-requires g c =
    rw c.deref.ensures.value (stops_reported c.args.rows.now g.L.Looks.may_close c.in_ok-all.all.outputs.items c.in_ok-all.all.trails.items c.in_ok-all.ensures.promised)

pub returns-clause-answered : goal.returns-clause-answered
returns-clause-answered g c =
    all_answered c.args.rows.now g.L.Looks.may_close c.in_ok-all.all.outputs.items (lists_of c.in_ok-all.all.trails.items) c.in_ok-all.ensures.promised (rw c.deref.ensures.value at c.in_ok-check_stops.ensures.all)
