use Rattle.std.proofs.Common.{arith}
use Rattle.bw_procedures.proofs.Parts.{within_fails}
use Rattle.bw_procedures.proofs.Rounds.{reshapes_then}
use Rattle.bw_procedures.proofs.Writes.{reshapes_none}
use Rattle.bw_procedures.proofs.tending.tend_within.Goals as goal

pub returns-in_err-next-clause-follows : goal.returns-in_err-next-clause-follows
returns-in_err-next-clause-follows g c = g.met.S.Steps.joins _ _ _ c.up.invariant.follows c.in_err-next.ensures.follows

pub returns-in-None-clause-follows : goal.returns-in-None-clause-follows
returns-in-None-clause-follows g c = g.met.S.Steps.joins _ _ _ c.up.invariant.follows c.in_ok-next.ensures.follows

pub up-init : goal.up-init
up-init g c = record { follows = g.met.S.Steps.stays _; reshapes = reshapes_none _ }

pub up-preserved : goal.up-preserved
up-preserved g c = record { follows = g.met.S.Steps.joins _ _ _ c.up.invariant.follows c.in_ok-next.ensures.follows; reshapes = reshapes_then _ _ _ c.up.invariant.reshapes c.in_ok-next.ensures.tended.0 }

pub up-smaller : goal.up-smaller
up-smaller g c = let next = rw c.in-Some.is at c.in_ok-next.ensures.tended in next.1

pub returns-in_err-next-clause-reshapes : goal.returns-in_err-next-clause-reshapes
returns-in_err-next-clause-reshapes g c = within_fails _ _ _ _ _ _ _ c.from_residual.ensures.1 c.up.invariant.reshapes c.in_err-next.ensures.tended

pub returns-in-None-clause-reshapes : goal.returns-in-None-clause-reshapes
returns-in-None-clause-reshapes g c = let all = reshapes_then _ _ _ c.up.invariant.reshapes c.in_ok-next.ensures.tended.0 in (all, omega (arith, all.grows.effort))
