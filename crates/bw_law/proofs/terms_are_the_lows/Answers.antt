use Rattle.bw_law.proofs.MapAndTerms.{term_law}
use Rattle.bw_law.proofs.terms_are_the_lows.Goals as goal

pub returns : goal.returns
returns c = term_law
