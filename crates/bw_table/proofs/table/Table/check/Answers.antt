use Rattle.std.proofs.Common.{rules}
use Rattle.bw_table.proofs.table.Table.check.Goals as goal

pub returns-in-Consolidate : goal.returns-in-Consolidate
returns-in-Consolidate g c = search rules
