use Rattle.bw_procedures.proofs.writing.write_at.Goals as goal

pub returns-clause-follows : goal.returns-clause-follows
returns-clause-follows g c = g.met.S.Steps.joins _ _ _ c.in_ok-found.ensures.follows c.propose.ensures.follows
