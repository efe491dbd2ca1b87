use Rattle.bw_alone.proofs.Copies.{pages_show}
use Rattle.bw_alone.proofs.sole.SoleStepsStep.consolidated_page.Goals as goal

pub returns-clause-shows : goal.returns-clause-shows
returns-clause-shows g c =
    let page = c.consolidated_page-base in
    let absent = rw c.get.ensures at page.ensures.absent in
    let made = rw c.get.ensures at page.ensures.made in
    pages_show (g.H.Holds.value c.args.self.now.table) c.args.pid.0 page.result c.law.ensures.lawful absent made
