use Rattle.bw_procedures.proofs.Parts.{round_fails}
use Rattle.bw_procedures.proofs.Rounds.{round_ends}
use Rattle.bw_procedures.proofs.round.drop_under.Goals as goal

pub returns-in-Refused-Deep-clause-follows : goal.returns-in-Refused-Deep-clause-follows
returns-in-Refused-Deep-clause-follows g c = g.met.S.Steps.joins _ _ _ c.in_ok-reshape.ensures.follows c.make_room.ensures.follows

pub returns-in-Refused-Deep-clause-round : goal.returns-in-Refused-Deep-clause-round
returns-in-Refused-Deep-clause-round g c = round_ends _ _ _ _ _ _ _ c.in_ok-reshape.ensures.reshapes.0 c.make_room.ensures.reshapes c.make_room.ensures.over

pub returns-in_err-reshape : goal.returns-in_err-reshape
returns-in_err-reshape g c = record { follows = c.in_err-reshape.ensures.follows; round = round_fails _ _ _ _ _ _ _ c.from_residual-in_err-reshape.ensures.1 c.in_err-reshape.ensures.reshapes }

pub returns-in_default : goal.returns-in_default
returns-in_default g c = record { follows = c.in_ok-reshape.ensures.follows; round = (c.in_ok-reshape.ensures.reshapes.0, c.in_ok-reshape.ensures.reshapes.1, tt) }
