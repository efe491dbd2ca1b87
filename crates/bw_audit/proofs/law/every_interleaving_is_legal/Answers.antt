use Rattle.bw_audit.proofs.Interleaved.{interleaving_law}
use Rattle.bw_audit.proofs.law.every_interleaving_is_legal.Goals as goal

pub returns : goal.returns
returns c = interleaving_law
