use Rattle.bw_procedures.proofs.Removals.{key_taken, key_missing, key_kept}
use Rattle.bw_procedures.proofs.clearing.remove.Goals as goal

pub returns-in-Some-clause-removes : goal.returns-in-Some-clause-removes
returns-in-Some-clause-removes g c = key_taken _ _ _ _ _ (rw c.in-Some.is at c.in-Ok.ensures.write.receipt)

pub returns-in-None-clause-removes : goal.returns-in-None-clause-removes
returns-in-None-clause-removes g c = key_missing _ _ _ _ (rw c.in-None.is at c.in-Ok.ensures.write.receipt)

pub returns-in-Err-clause-removes : goal.returns-in-Err-clause-removes
returns-in-Err-clause-removes g c = key_kept _ _ _ _ c.in-Err.ensures.write.no_receipt
