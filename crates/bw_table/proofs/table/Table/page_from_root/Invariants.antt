use Rattle.bw_law.specs.Tables.{Lawful}
use Rattle.bw_table.specs.Rests.{IsLedTo, rest_left}
use Rattle.bw_table.proofs.Todos.{IsComeTo}
use Rattle.bw_table.proofs.table.Table.page_from_root.Given as goal

abbrev pub invariant-walk : goal.invariant-walk
invariant-walk g l = record { lawful : Lawful l.self; led : IsLedTo l.self l.key l.page.0; come : IsComeTo l.self l.key l.page.0 }

abbrev pub decreases-walk : goal.decreases-walk
decreases-walk g l = rest_left l.self l.page.0
