use Rattle.bw_law.specs.Tables.{slot_at, Lawful}
use Rattle.bw_table.specs.LeafRows.{IsRowStart}
use Rattle.bw_table.proofs.table.Table.leftmost_leaf.Given as goal

abbrev pub invariant-levels : goal.invariant-levels
invariant-levels g l = record { lawful : Lawful l.self; start : IsRowStart l.self l.page.0 }

abbrev pub decreases-levels : goal.decreases-levels
decreases-levels g l = (slot_at l.self l.page.0).level
