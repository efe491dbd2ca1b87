use Rattle.std.proofs.Common.{◌≡◌, sym, subst}
use Rattle.bw_law.specs.Tables.{TableValue}
use Rattle.bw_snap.specs.Fronts.{Announced}
use Rattle.bw_snap.specs.Snapshots.{IsSnapshot, BeginsWith}
use Rattle.bw_snap.proofs.Seats.{goes_on}
use Rattle.bw_snap.proofs.ends.publish.Goals as goal

pub publish_as-requires : goal.publish_as-requires
publish_as-requires g c next is =
    let config = g.N.MadeBy.config in
    let announcements = g.N.Naming.announcements in
    let now = c.args.writer.desk.shown.value in
    let lands = subst (λ (end : TableValue × Announced). IsSnapshot config end.1.list end.0 × (end.1.announcements ≡ announcements) × BeginsWith end.1.list now.front.list) (sym is) c.requires in
    goes_on config announcements _ _ now next lands.0 lands.1 lands.2
