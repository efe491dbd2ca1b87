use Rattle.std.proofs.Common.{rules}
use Rattle.bw_texts.proofs.trace.made.draw_row.Goals as goal

pub returns-clause-row : goal.returns-clause-row
returns-clause-row c = search rules
