use Rattle.std.proofs.Common.{subst, arith}
use Rattle.bw_step.specs.declared.place.Go.{Go}
use Rattle.bw_law.specs.Laws.{IsLeafOf}
use Rattle.bw_table.specs.Visits.{IsFound, FindsPage}
use Rattle.bw_table.proofs.Ways.{each_walk_ends_there, one_walk_ends_there, found_leaf}
use Rattle.bw_table.proofs.table.Table.locate.Goals as goal

pub returns-in-Here : goal.returns-in-Here
returns-in-Here g c =
    let table = c.args.self.now in
    let key = c.args.key in
    let page = c.in-Here.view.pid.0 in
    let found : IsFound table c.walk.place key 0 c.in-Here.view = subst (λ (go : Go). FindsPage table c.walk.place key 0 go) c.in-Here.is c.visit.ensures.found in
    let leaf = found_leaf table c.walk.place key c.in-Here.view found in record {
      leaf = leaf;
      walk = each_walk_ends_there table key page c.law.ensures.lawful leaf;
      one_walk = one_walk_ends_there table key page c.law.ensures.lawful (omega arith) leaf;
    }
