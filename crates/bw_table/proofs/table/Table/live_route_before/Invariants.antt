use Rattle.std.proofs.Common.{◌≡◌}
use Rattle.bw_delta.specs.Entries.{last_below}
use Rattle.bw_table.specs.Visits.{live_routes}
use Rattle.bw_table.proofs.table.Table.live_route_before.Given as goal

abbrev pub invariant-routes : goal.invariant-routes
invariant-routes g l = last_below l.fn.key (live_routes l.self.slots l.slot) ≡ last_below l.bound (live_routes l.self.slots l.slot)

abbrev pub decreases-routes : goal.decreases-routes
decreases-routes g l = l.bound
