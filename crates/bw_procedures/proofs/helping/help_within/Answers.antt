use Rattle.bw_procedures.proofs.Parts.{within_fails}
use Rattle.bw_procedures.proofs.Writes.{reshapes_none}
use Rattle.std.proofs.Common.{refl}
use Rattle.bw_procedures.proofs.Joining.{reshapes_and_costs}
use Rattle.bw_procedures.proofs.Rounds.{reshapes_then, idles}
use Rattle.bw_procedures.proofs.helping.help_within.Goals as goal

pub returns-in-Over-clause-reshapes : goal.returns-in-Over-clause-reshapes
returns-in-Over-clause-reshapes g c =
    let round = rw c.in-Over.is at c.in_ok-round.ensures.round in
    reshapes_and_costs _ _ _ c.rounds.invariant.reshapes (round.0, round.1)

pub returns-in-Idle-clause-reshapes : goal.returns-in-Idle-clause-reshapes
returns-in-Idle-clause-reshapes g c = idles _ _ _ _ c.rounds.invariant.reshapes c.in_ok-round.ensures.round.0 c.idle.ensures.seen

pub returns-then-is_spent-clause-reshapes : goal.returns-then-is_spent-clause-reshapes
returns-then-is_spent-clause-reshapes g c = (reshapes_then _ _ _ c.rounds.invariant.reshapes c.in_ok-round.ensures.round.0, c.if-is_spent.ensures.0 refl)

pub returns-in_err-round-clause-follows : goal.returns-in_err-round-clause-follows
returns-in_err-round-clause-follows g c = g.met.S.Steps.joins _ _ _ c.rounds.invariant.follows c.in_err-round.ensures.follows

pub returns-in-Over-clause-follows : goal.returns-in-Over-clause-follows
returns-in-Over-clause-follows g c = g.met.S.Steps.joins _ _ _ c.rounds.invariant.follows c.in_ok-round.ensures.follows

pub returns-in-Idle-clause-follows : goal.returns-in-Idle-clause-follows
returns-in-Idle-clause-follows g c = g.met.S.Steps.joins _ _ _ c.rounds.invariant.follows (g.met.S.Steps.joins _ _ _ c.in_ok-round.ensures.follows c.idle.ensures.follows)

pub returns-then-is_spent-clause-follows : goal.returns-then-is_spent-clause-follows
returns-then-is_spent-clause-follows g c = g.met.S.Steps.joins _ _ _ c.rounds.invariant.follows c.in_ok-round.ensures.follows

pub rounds-init : goal.rounds-init
rounds-init g c = record { follows = g.met.S.Steps.stays _; reshapes = reshapes_none _ }

pub rounds-preserved : goal.rounds-preserved
rounds-preserved g c = record { follows = g.met.S.Steps.joins _ _ _ c.rounds.invariant.follows c.in_ok-round.ensures.follows; reshapes = reshapes_then _ _ _ c.rounds.invariant.reshapes c.in_ok-round.ensures.round.0 }

pub rounds-smaller : goal.rounds-smaller
rounds-smaller g c = let round = rw c.in-Next.is at c.in_ok-round.ensures.round in round.2

pub returns-in_err-round-clause-reshapes : goal.returns-in_err-round-clause-reshapes
returns-in_err-round-clause-reshapes g c = within_fails _ _ _ _ _ _ _ c.from_residual.ensures.1 c.rounds.invariant.reshapes c.in_err-round.ensures.round
