use Rattle.std.proofs.Common.{rules}
use Rattle.bw_table.proofs.table.Table.is_merged.Goals as goal

pub returns-in-Some : goal.returns-in-Some
returns-in-Some g c = search rules
