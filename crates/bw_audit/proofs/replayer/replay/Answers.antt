use Rattle.std.proofs.Common.{arith, refl}
use Rattle.bw_audit.proofs.Interleaved.{first_is_explained, explained_is_legal}
use Rattle.bw_audit.proofs.replayer.replay.Goals as goal

pub take_turns-requires-clause-explained : goal.take_turns-requires-clause-explained
take_turns-requires-clause-explained c =
    rw c.in-Ok.ensures.ok (first_is_explained c.args.config c.args.workers (c.in-Ok.ensures.fine refl) (omega arith))

pub returns-in-Ok-take_turns-clause-legal : goal.returns-in-Ok-take_turns-clause-legal
returns-in-Ok-take_turns-clause-legal c = λ pairs map. explained_is_legal c.in-Ok-take_turns.replayed.table _ pairs c.in-Ok-take_turns.ensures.explained map
