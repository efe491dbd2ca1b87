use Rattle.bw_procedures.proofs.effort.limit.Goals as goal

pub returns : goal.returns
returns g c = cc
