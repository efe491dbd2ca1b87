use Rattle.bw_law.specs.Tables.{Lawful}
use Rattle.bw_table.specs.Gets.{IsUpTo, way_left}
use Rattle.bw_table.proofs.table.Table.walk.Given as goal

abbrev pub invariant-walk : goal.invariant-walk
invariant-walk g l = record { lawful : Lawful l.self; up_to : IsUpTo l.self l.key l.page.0 }

abbrev pub decreases-walk : goal.decreases-walk
decreases-walk g l = way_left l.self l.page.0
