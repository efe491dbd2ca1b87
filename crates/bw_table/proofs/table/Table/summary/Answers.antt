use Rattle.std.proofs.Common.{rules}
use Rattle.bw_table.proofs.table.Table.summary.Goals as goal

pub returns-clause-summary : goal.returns-clause-summary
returns-clause-summary g c = search rules

pub returns-clause-merged : goal.returns-clause-merged
returns-clause-merged g c = search rules
