use Rattle.bw_snap.proofs.Seats.{reads}
use Rattle.bw_snap.proofs.ends.ask.Goals as goal

pub enter_as-requires : goal.enter_as-requires
enter_as-requires g c x = reads g.N.MadeBy.config g.N.Naming.announcements _ _ x
