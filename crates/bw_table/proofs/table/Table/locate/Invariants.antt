use Rattle.std.proofs.Common.{◌+◌, ◌-◌, ◌*◌, ◌^◌}
use Rattle.bw_table.specs.Visits.{IsOnTheWay}
use Rattle.bw_table.proofs.table.Table.locate.Given as goal

abbrev pub invariant-walk : goal.invariant-walk
invariant-walk g l = IsOnTheWay l.self l.place l.key 0

abbrev pub decreases-walk : goal.decreases-walk
decreases-walk g l = l.place.level * 2 ^ 65 + (2 ^ 64 - l.place.from)
