use Rattle.std.proofs.Common.{arith}
use Rattle.bw_procedures.proofs.Joining.{tends_then}
use Rattle.bw_procedures.proofs.Rounds.{reshapes_then}
use Rattle.bw_procedures.proofs.tending.split_page.Goals as goal

pub returns-in-None-clause-tended : goal.returns-in-None-clause-tended
returns-in-None-clause-tended g c =
    let before = c.in_ok-new.ensures.tended.0 in
    let split = rw c.in-Some-2.is at c.in_ok-separator.ensures.tended in
    let post = c.in-None.ensures.reshapes.0 in
    let so_far = reshapes_then _ _ _ (reshapes_then _ _ _ before split.0) post in
    tends_then c.args.limit c.page_after-in-None.result _ _ _ so_far (omega (arith, before.grows.effort, split.1, post.grows.effort)) c.page_after-in-None.ensures.reshapes
