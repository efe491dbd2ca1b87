use Rattle.bw_procedures.proofs.cursor.copy_leaf.Goals as goal

pub returns-in-Ok-clause-follows : goal.returns-in-Ok-clause-follows
returns-in-Ok-clause-follows g c = g.met.S.Steps.joins _ _ _ c.in-Some.ensures.follows (g.met.S.Steps.joins _ _ _ c.in-Ok.ensures.follows c.cut.ensures.follows)

pub returns-in-Err-NoMemory-clause-follows : goal.returns-in-Err-NoMemory-clause-follows
returns-in-Err-NoMemory-clause-follows g c = g.met.S.Steps.joins _ _ _ c.in-Some.ensures.follows c.in-Err-NoMemory.ensures.follows

pub returns-in-Err-Absent-clause-follows : goal.returns-in-Err-Absent-clause-follows
returns-in-Err-Absent-clause-follows g c = g.met.S.Steps.joins _ _ _ c.in-Some.ensures.follows c.in-Err-Absent.ensures.follows

pub returns-in-Err-Stale-clause-follows : goal.returns-in-Err-Stale-clause-follows
returns-in-Err-Stale-clause-follows g c = g.met.S.Steps.joins _ _ _ c.in-Some.ensures.follows c.in-Err-Stale.ensures.follows
