use Rattle.std.proofs.Common.{◌≡◌, ◌≤◌, ◌*◌, ◌++◌, All, List, length, map, ap, subst, sym, ◌∙◌, arith}
use Rattle.std.specs.Prelude.{vec_capacity}
use Rattle.bw_crew.specs.Workers.{share_by}
use Rattle.bw_forest.specs.Forests.{IsClosedForest, books_of, config_of, pairs_of}
use Rattle.bw_tree.specs.Shares.{ShareValue}
use Rattle.nifforan_forest.specs.Workers.{trails_of}
use Rattle.nifforan_forest.proofs.Back.{at_least_one, back_late, one_more_each, room_for_all}
use Rattle.nifforan_forest.proofs.Gathering.{pairs_again}
use Rattle.nifforan_forest.proofs.sharing.share_again.Goals as goal

pub joined-requires : goal.joined-requires
joined-requires g c =
    let made = c.in-Ok-made.ensures in
    let trees : c.trees-trees.result ≡ length c.args.forest.bounds = c.trees-trees.ensures.count ∙ ap length c.bounds.ensures in
    let room : c.args.blanks.workers * length c.args.forest.bounds ≤ vec_capacity c.in-Ok.room = rw trees at c.in-Ok.ensures.room in
    let some = at_least_one c.args.blanks.workers c.args.workers (length c.args.forest.bounds) c.requires.workers in
    omega (arith, some, room, made.at_each, ap length c.in-Ok.ensures.none)

pub share_open-requires-clause-each : goal.share_open-requires-clause-each
share_open-requires-clause-each g c κs within =
    subst (λ bounds. All (λ its. length its.items ≡ length bounds) c.in-Ok-made.made.1.items) c.requires.divided c.in-Ok-made.ensures.each

pub share_open-requires-clause-whole : goal.share_open-requires-clause-whole
share_open-requires-clause-whole g c κs within =
    let made = c.in-Ok-made.ensures in
    let trees = length g.I.Divides.bounds in
    let opening = ap length (c.joined.ensures.both ∙ ap (λ (l : List ShareValue). l ++ c.in-Ok-made.made.2.items) c.in-Ok.ensures.none) in
    one_more_each (length c.joined.result.items) (length c.in-Ok-made.made.1.items) c.in-Ok-made.made.0.totals.workers trees
    (opening ∙ made.at_each ∙ ap length c.requires.divided) (made.workers ∙ sym made.all)

pub share_open-requires-clause-room : goal.share_open-requires-clause-room
share_open-requires-clause-room g c κs within =
    let made = c.in-Ok-made.ensures in
    let trees = length g.I.Divides.bounds in
    let opening = ap length (c.joined.ensures.both ∙ ap (λ (l : List ShareValue). l ++ c.in-Ok-made.made.2.items) c.in-Ok.ensures.none) in
    let whole = one_more_each (length c.joined.result.items) (length c.in-Ok-made.made.1.items) c.in-Ok-made.made.0.totals.workers trees
    (opening ∙ made.at_each ∙ ap length c.requires.divided) (made.workers ∙ sym made.all) in
    let many : c.trees-trees.result ≡ trees =
    c.trees-trees.ensures.count ∙ (ap length c.bounds.ensures ∙ ap length c.requires.divided) in
    let fits : c.in-Ok-made.made.0.totals.workers * trees ≤ vec_capacity c.in-Ok.room = rw (made.all, ← many) c.in-Ok.ensures.room in
    room_for_all (length c.joined.result.items) (length c.in-Ok-made.made.1.items) c.in-Ok-made.made.0.totals.workers trees
    (vec_capacity c.in-Ok.room) (vec_capacity c.joined.result) whole fits c.joined.ensures.room

pub returns-in-Err-share_open-clause-back : goal.returns-in-Err-share_open-clause-back
returns-in-Err-share_open-clause-back g c =
    let failed = c.in-Err-share_open in
    back_late c.args.forest g.I.Divides.bounds g.I.MadeBy.config failed.unshared c.requires.divided c.requires.ledgers.made
    failed.ensures.late failed.ensures.back

pub returns-in-Ok-share_open-clause-shared : goal.returns-in-Ok-share_open-clause-shared
returns-in-Ok-share_open-clause-shared g c =
    let made = c.in-Ok-made.ensures in
    let shared = c.in-Ok-share_open.ensures in
    let outcome = c.in-Ok-share_open.outcome in
    let given = c.args.forest in
    let told = map share_by (trails_of g.L.Trail.added outcome.workers.items) in
    let opening = c.joined.ensures.both
    ∙ ap (λ (l : List ShareValue). l ++ c.in-Ok-made.made.2.items) c.in-Ok.ensures.none ∙ made.opening in
    let closed : IsClosedForest (config_of given.tables) (books_of given.tables ++ told) outcome.forest =
    subst (λ config. IsClosedForest config (books_of given.tables ++ told) outcome.forest) c.requires.ledgers.made
    (subst (λ (opening : List ShareValue). IsClosedForest g.I.MadeBy.config (opening ++ told) outcome.forest) opening shared.closed) in
    let there = rw made.opening at made.there in
    record {
      ranges = shared.ranges ∙ sym c.requires.divided;
      closed = closed;
      pairs = pairs_again (pairs_of outcome.forest.tables) (pairs_of given.tables) (books_of given.tables) told there closed.pairs;
      returned = omega (arith, shared.returned, made.workers, c.requires.workers);
      trails = rw c.requires.divided shared.trails;
      promised = rw c.requires.divided shared.promised;
    }
