use Rattle.bw_procedures.proofs.Receipts.{get_tells}
use Rattle.bw_run.proofs.acts.do_row.Goals as goal

pub returns-in_ok-note-in-Some-clause-reported : goal.returns-in_ok-note-in-Some-clause-reported
returns-in_ok-note-in-Some-clause-reported g c =
    let look = c.in-Some.found.look in
    rw c.in-Get.is (get_tells c.in-Get.key look.found _ _ (look.at, c.in_ok-note-in-Some.ensures.seen.1))
