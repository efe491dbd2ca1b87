use Rattle.bw_law.proofs.Facts.{fit_law}
use Rattle.bw_law.proofs.numbers_fit.Goals as goal

pub returns : goal.returns
returns c = fit_law
