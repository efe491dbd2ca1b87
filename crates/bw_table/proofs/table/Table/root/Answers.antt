use Rattle.std.proofs.Common.{rules}
use Rattle.bw_table.proofs.table.Table.root.Goals as goal

pub returns-clause-place : goal.returns-clause-place
returns-clause-place g c = search rules

pub returns-clause-on_the_way : goal.returns-clause-on_the_way
returns-clause-on_the_way g c = search rules
