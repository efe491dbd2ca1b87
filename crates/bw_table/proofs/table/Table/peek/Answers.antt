use Rattle.std.proofs.Common.{rules}
use Rattle.bw_table.proofs.table.Table.peek.Goals as goal

pub returns-clause-view : goal.returns-clause-view
returns-clause-view g c = search rules
