use Rattle.bw_snap.proofs.Seats.{admits}
use Rattle.bw_snap.proofs.ends.newcomer.Goals as goal

pub reader-requires : goal.reader-requires
reader-requires g c = admits g.N.MadeBy.config g.N.Naming.announcements
