use Rattle.std.proofs.Common.{◌≡◌, ◌++◌, ◌∷◌, [], List, drop, sym, ◌∙◌, ap, subst, arith, rules, length-append}
use Rattle.bw_step.specs.Proposals.{Proposal}
use Rattle.bw_snap.specs.Snapshots.{BeginsWith}
use Rattle.bw_snap.specs.Notes.{steps_of}
use Rattle.bw_snap.specs.Fronts.{newest}
use Rattle.bw_snap.proofs.Adding.{adding_keeps_the_rule, was_added}
use Rattle.bw_snap.proofs.Beginnings.{one_more_rises, one_more_is_newest}
use Rattle.bw_snap.proofs.front.Front.try_announce.Goals as goal

pub compare_exchange-found-requires : goal.compare_exchange-found-requires
compare_exchange-found-requires g c =
    let head = c.args.head.now.is_head in
    let offer = c.plain-offer.ensures in
    let pen = c.no_pen-pen.ensures in
    let again = c.again-seen.ensures in
    let w = c.args.writer.now in
    let asked : List Proposal = w.desk.shown.value.front.list ++ steps_of w.desk.shown.value.table (drop w.behind w.log.items) in
    let goes_on : BeginsWith asked (newest [] c.self.inside.seen.log) = subst (λ (l : List Proposal). BeginsWith asked l) (sym (ap (λ x. x.list) c.self.view_is)) c.requires.list in
    let mine : c.self.inside.seen.book ≡ g.N.Naming.announcements = ap (λ x. x.announcements) c.self.view_is ∙ c.requires.announcements in
    let home = mine ∙ sym (ap (λ b. b.book) head) in (
      ap (λ b. b.tracked) head,
      ap (λ s. s.book) again ∙ home,
      pen.0 ∙ (ap (λ s. s.book) again ∙ home),
      offer.0,
      rw (again, ap (λ b. b.key) head, pen.1, offer.1, offer.3) (adding_keeps_the_rule c.self.inside.seen.log asked c.self.inside.count (sym c.self.invariant.0) goes_on),
    )

pub invariant_of-self : goal.invariant_of-self
invariant_of-self g c =
    let w = c.args.writer.now in
    let asked : List Proposal = w.desk.shown.value.front.list ++ steps_of w.desk.shown.value.table (drop w.behind w.log.items) in
    let log = c.self.inside.seen.log in
    let again = c.again-seen.ensures in
    let goes_on : BeginsWith asked (newest [] log) = subst (λ (l : List Proposal). BeginsWith asked l) (sym (ap (λ x. x.list) c.self.view_is)) c.requires.list in
    let same : c.compare_exchange-found.result ≡ c.self.inside.count = search rules in
    let added = was_added c.compare_exchange-found.result c.self.inside.count _ _ same c.compare_exchange-found.ensures.7 in
    let new : c.compare_exchange-found.new.seen.log ≡ log ++ asked ∷ [] = rw (again, c.plain-offer.ensures.1) at added in
    (rw new (omega (arith, c.self.invariant.0, length-append log (asked ∷ []))), rw new (one_more_rises [] log asked c.self.invariant.1 goes_on))

pub returns : goal.returns
returns g c =
    let w = c.args.writer.now in
    let asked : List Proposal = w.desk.shown.value.front.list ++ steps_of w.desk.shown.value.table (drop w.behind w.log.items) in
    let log = c.self.inside.seen.log in
    let again = c.again-seen.ensures in
    let same : c.compare_exchange-found.result ≡ c.self.inside.count = search rules in
    let added = was_added c.compare_exchange-found.result c.self.inside.count _ _ same c.compare_exchange-found.ensures.7 in
    let new : c.compare_exchange-found.new.seen.log ≡ log ++ asked ∷ [] = rw (again, c.plain-offer.ensures.1) at added in
    let list = ap (λ (l : List (List Proposal)). newest [] l) new ∙ one_more_is_newest [] log asked in
    let mine : c.self.inside.seen.book ≡ g.N.Naming.announcements = ap (λ x. x.announcements) c.self.view_is ∙ c.requires.announcements in
    let announcements = c.compare_exchange-found.ensures.0 ∙ (ap (λ s. s.book) again ∙ mine) in
    λ i. record { list = list i; announcements = announcements i }
