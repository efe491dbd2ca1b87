use Rattle.bw_snap.proofs.Seats.{admits, forks, merges}
use Rattle.bw_snap.proofs.ends.caught_up.Goals as goal

pub reader-requires : goal.reader-requires
reader-requires g c = admits g.N.MadeBy.config g.N.Naming.announcements

pub tell-requires : goal.tell-requires
tell-requires g c = forks g.N.MadeBy.config g.N.Naming.announcements _ _

pub learn-requires-clause-rule : goal.learn-requires-clause-rule
learn-requires-clause-rule g c = merges g.N.MadeBy.config g.N.Naming.announcements _ _ _ _
