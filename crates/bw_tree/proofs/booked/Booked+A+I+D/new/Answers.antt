use Rattle.std.proofs.Common.{ap, sym, ◌∙◌}
use Rattle.bw_law.specs.Tables.{TableValue}
use Rattle.bw_tree.proofs.booked.Booked+A+I+D.new.Goals as goal

pub over-requires-clause-made : goal.over-requires-clause-made
over-requires-clause-made g c = ap (λ (t : TableValue). t.config) c.in-Ok.ensures.ok ∙ sym c.requires.ledgers.made
