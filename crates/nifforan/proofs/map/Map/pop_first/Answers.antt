use Rattle.nifforan.proofs.Pops.{pops_first, on_ok}
use Rattle.nifforan.proofs.map.Map.pop_first.Goals as goal

pub returns-clause-pops : goal.returns-clause-pops
returns-clause-pops g c = on_ok _ _ c.take_out.result (λ done takes. pops_first _ _ _ _ _ _ c.law.ensures.rise c.first-first.ensures takes) c.take_out.ensures.takes
