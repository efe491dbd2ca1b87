use Rattle.bw_table.proofs.Gets.{IsGreatestLeft, routes_left}
use Rattle.bw_table.proofs.table.Table.live_child.Given as goal

abbrev pub invariant-routes : goal.invariant-routes
invariant-routes g l = IsGreatestLeft l.self.slots l.slot l.key l.route

abbrev pub decreases-routes : goal.decreases-routes
decreases-routes g l = routes_left l.route
