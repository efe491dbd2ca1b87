use Rattle.std.proofs.Common.{◌+◌, ◌-◌, ◌*◌, ◌^◌}
use Rattle.bw_table.specs.Visits.{IsOnTheWay}
use Rattle.bw_table.proofs.table.Table.page_above.Given as goal

abbrev pub invariant-up : goal.invariant-up
invariant-up g l = IsOnTheWay l.self l.place l.under.low l.goal

abbrev pub decreases-up : goal.decreases-up
decreases-up g l = l.place.level * 2 ^ 65 + (2 ^ 64 - l.place.from)
