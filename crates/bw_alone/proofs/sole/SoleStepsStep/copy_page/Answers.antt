use Rattle.bw_alone.proofs.Copies.{copies_show}
use Rattle.bw_alone.proofs.sole.SoleStepsStep.copy_page.Goals as goal

pub returns-clause-shows : goal.returns-clause-shows
returns-clause-shows g c =
    let copy = c.copy_page-copy in
    let absent = rw c.get.ensures at copy.ensures.absent in
    let copied = rw c.get.ensures at copy.ensures.copied in
    copies_show (g.H.Holds.value c.args.self.now.table) c.args.pid.0 copy.result c.law.ensures.lawful absent copied
