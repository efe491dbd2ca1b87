use Rattle.nifforan.proofs.Pops.{pops_last, on_ok}
use Rattle.nifforan.proofs.map.Map.pop_last.Goals as goal

pub returns-clause-pops : goal.returns-clause-pops
returns-clause-pops g c = on_ok _ _ c.take_out.result (λ done takes. pops_last _ _ _ _ _ _ c.law.ensures.rise c.last-last.ensures takes) c.take_out.ensures.takes
