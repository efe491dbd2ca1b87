use Rattle.std.proofs.Common.{◌≡◌, All, length, map, ◌++◌, subst, sym, ◌∙◌}
use Rattle.bw_crew.specs.Workers.{share_by}
use Rattle.bw_forest.specs.Forests.{IsClosedForest}
use Rattle.nifforan_forest.specs.Workers.{trails_of}
use Rattle.nifforan_forest.proofs.sharing.share_new.Goals as goal

pub share_open-requires-clause-each : goal.share_open-requires-clause-each
share_open-requires-clause-each g c κs within =
    subst (λ bounds. All (λ its. length its.items ≡ length bounds) c.in-Ok.made.1.items) c.requires.divided c.in-Ok.ensures.each

pub returns-in-Ok-share_open-clause-shared : goal.returns-in-Ok-share_open-clause-shared
returns-in-Ok-share_open-clause-shared g c =
    let shared = c.in-Ok-share_open.ensures in
    let outcome = c.in-Ok-share_open.outcome in
    let told = map share_by (trails_of g.L.Trail.added outcome.workers.items) in
    record {
      ranges = shared.ranges ∙ sym c.requires.divided;
      closed = subst (λ made. IsClosedForest made told outcome.forest) c.requires.ledgers.made
          (subst (λ opening. IsClosedForest g.I.MadeBy.config (opening ++ told) outcome.forest) c.in-Ok-room_for_shares.ensures.none
          shared.closed);
      returned = shared.returned ∙ c.in-Ok.ensures.workers;
      trails = rw c.requires.divided shared.trails;
      promised = rw c.requires.divided shared.promised;
    }
