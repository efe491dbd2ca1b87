use Rattle.std.proofs.Common.{◌≡◌, ap, ◌∙◌, refl, drop, fold, ◌++◌, ◌∷◌, [], rules}
use Rattle.left_right.specs.Sides.{view}
use Rattle.left_right.specs.declared.part.Part.{Part}
use Rattle.bw_snap.specs.declared.shown.Shown.{Shown}
use Rattle.bw_snap.specs.declared.note.Note.TheVariants.{Mark}
use Rattle.bw_snap.specs.Fronts.{Announced}
use Rattle.bw_snap.specs.Notes.{noted, steps_of, held_notes}
use Rattle.bw_snap.specs.Trees.{PublishedValue}
use Rattle.bw_snap.proofs.Notes.{lands, marked, noted_behind, steps_of-mark, lags_on, announced_whole, published_whole}
use Rattle.bw_snap.proofs.published.Published.publish.Goals as goal

pub announce-requires-clause-list : goal.announce-requires-clause-list
announce-requires-clause-list g c =
    let w = c.self.inside.writer in
    let notes = drop w.behind w.log.items ++ held_notes c.self.inside.held in
    let log = c.in_ok-settle.ensures.all in
    rw (c.settle.ensures.desk, log) c.self.invariant.begins

pub advance-requires : goal.advance-requires
advance-requires g c =
    let w = c.self.inside.writer in
    let v : Shown = w.desk.shown.value in
    let notes = drop w.behind w.log.items ++ held_notes c.self.inside.held in
    let log = c.in_ok-settle.ensures.all in
    let is : c.again.result ≡ record { list = v.front.list ++ steps_of v.table notes; announcements = g.N.Naming.announcements } =
    rw (c.settle.ensures.desk, log) at (c.again.ensures ∙ c.announce.ensures) in
    rw (c.append.ensures.desk, c.in_ok-append.ensures.pending, c.settle.ensures.desk, log)
    (lands g.N.MadeBy.config v.table c.self.inside.booked v.front c.again.result notes g.N.Naming.announcements c.self.invariant.leads c.self.invariant.snapshot is)

pub invariant_of-self-in_err-append : goal.invariant_of-self-in_err-append
invariant_of-self-in_err-append g c =
    let w = c.self.inside.writer in
    let v : Shown = w.desk.shown.value in
    let notes = drop w.behind w.log.items ++ held_notes c.self.inside.held in
    let log = c.in_ok-settle.ensures.all in
    let front : c.announce.new.self ≡ record { list = v.front.list ++ steps_of v.table notes; announcements = g.N.Naming.announcements } =
    rw (c.settle.ensures.desk, log) at c.announce.ensures in
    rw (c.append.ensures.desk, c.in_err-append.ensures.pending, c.settle.ensures.desk, c.settle.ensures.notes) (announced_whole c.self.invariant c.announce.new.self front)

pub invariant_of-self-in-Err : goal.invariant_of-self-in-Err
invariant_of-self-in-Err g c =
    let w = c.self.inside.writer in
    let v : Shown = w.desk.shown.value in
    let notes = drop w.behind w.log.items ++ held_notes c.self.inside.held in
    let log = c.in_ok-settle.ensures.all in
    let front : c.announce.new.self ≡ record { list = v.front.list ++ steps_of v.table notes; announcements = g.N.Naming.announcements } =
    rw (c.settle.ensures.desk, log) at c.announce.ensures in
    let kept = c.in-Err.ensures.err in
    let shown : c.advance.new.writer.desk.shown.value ≡ v = kept.0 ∙ (ap (λ d. d.shown.value) c.append.ensures.desk ∙ ap (λ d. d.shown.value) c.settle.ensures.desk) in
    let pending = noted_behind (drop c.settle.new.writer.behind c.settle.new.writer.log.items) (drop c.advance.new.writer.behind c.advance.new.writer.log.items) notes c.settle.new.held (Mark c.again.result) c.in_ok-settle.ensures.all c.in_ok-settle.ensures.settled (kept.1 ∙ c.in_ok-append.ensures.pending) in
    let place : view c.advance.new.writer.desk.place ≡ view w.desk.place = kept.2 ∙ (ap (λ d. view d.place) c.append.ensures.desk ∙ ap (λ d. view d.place) c.settle.ensures.desk) in
    rw (shown, pending, place) (lags_on (announced_whole c.self.invariant c.announce.new.self front) (Mark c.again.result ∷ []) [] refl c.self.inside.booked refl)

pub returns-in-Err-clause-unchanged : goal.returns-in-Err-clause-unchanged
returns-in-Err-clause-unchanged g c =
    let w = c.self.inside.writer in
    let v : Shown = w.desk.shown.value in
    let notes = drop w.behind w.log.items ++ held_notes c.self.inside.held in
    let kept = c.in-Err.ensures.err in
    let shown : c.advance.new.writer.desk.shown.value ≡ v = kept.0 ∙ (ap (λ d. d.shown.value) c.append.ensures.desk ∙ ap (λ d. d.shown.value) c.settle.ensures.desk) in
    let pending = noted_behind (drop c.settle.new.writer.behind c.settle.new.writer.log.items) (drop c.advance.new.writer.behind c.advance.new.writer.log.items) notes c.settle.new.held (Mark c.again.result) c.in_ok-settle.ensures.all c.in_ok-settle.ensures.settled (kept.1 ∙ c.in_ok-append.ensures.pending) in
    rw (shown, pending, steps_of-mark v.table c.self.inside.booked notes c.again.result c.self.invariant.leads) c.self.view_is

pub invariant_of-self-2 : goal.invariant_of-self-2
invariant_of-self-2 g c =
    let w = c.self.inside.writer in
    let v : Shown = w.desk.shown.value in
    let notes = drop w.behind w.log.items ++ held_notes c.self.inside.held in
    let log = c.in_ok-settle.ensures.all in
    let announced : c.announce.new.self ≡ record { list = v.front.list ++ steps_of v.table notes; announcements = g.N.Naming.announcements } =
    rw (c.settle.ensures.desk, log) at c.announce.ensures in
    let landed : fold noted (v.table, v.front) (notes ++ Mark c.again.result ∷ []) ≡ (c.self.inside.booked, c.again.result) = marked v.table c.self.inside.booked v.front c.again.result notes c.self.invariant.leads in
    let end = rw (c.append.ensures.desk, c.in_ok-append.ensures.pending, c.settle.ensures.desk, log) at c.in-Ok.ensures.ok in
    let is = c.again.ensures ∙ announced in
    let table : c.advance.new.writer.desk.shown.value.table ≡ c.self.inside.booked = end.0 ∙ ap (λ p. p.0) landed in
    let front : c.advance.new.writer.desk.shown.value.front ≡ record { list = v.front.list ++ steps_of v.table notes; announcements = g.N.Naming.announcements } = end.1 ∙ (ap (λ p. p.1) landed ∙ is) in
    let caught_up = c.caught_up-inner.ensures in
    let seen : view c.advance.new.writer.desk.place ≡ v.front.list ++ steps_of v.table notes = end.3 ∙ (ap (λ p. p.1.list) landed ∙ ap (λ (f : Announced). f.list) is) in
    rw (caught_up.desk, caught_up.log.0, caught_up.log.1, caught_up.seen, table, front, end.2, c.in_ok-settle.ensures.settled, seen, announced)
    (published_whole c.self.invariant (record { list = v.front.list ++ steps_of v.table notes; announcements = g.N.Naming.announcements }) refl)

pub returns-clause-published : goal.returns-clause-published
returns-clause-published g c =
    let w = c.self.inside.writer in
    let v : Shown = w.desk.shown.value in
    let notes = drop w.behind w.log.items ++ held_notes c.self.inside.held in
    let log = c.in_ok-settle.ensures.all in
    let landed : fold noted (v.table, v.front) (notes ++ Mark c.again.result ∷ []) ≡ (c.self.inside.booked, c.again.result) = marked v.table c.self.inside.booked v.front c.again.result notes c.self.invariant.leads in
    let end = rw (c.append.ensures.desk, c.in_ok-append.ensures.pending, c.settle.ensures.desk, log) at c.in-Ok.ensures.ok in
    let table : c.advance.new.writer.desk.shown.value.table ≡ c.self.inside.booked = end.0 ∙ ap (λ p. p.0) landed in
    ap (λ (shown : Part Shown). shown.value.table) c.caught_up-inner.ensures.desk ∙ (table ∙ ap (λ (h : PublishedValue). h.table) c.self.view_is)

pub returns-clause-table : goal.returns-clause-table
returns-clause-table g c = ap (λ (h : PublishedValue). h.table) c.self.view_is

pub returns-clause-list : goal.returns-clause-list
returns-clause-list g c =
    let w = c.self.inside.writer in
    let v : Shown = w.desk.shown.value in
    let notes = drop w.behind w.log.items ++ held_notes c.self.inside.held in
    let log = c.in_ok-settle.ensures.all in
    let announced : c.announce.new.self ≡ record { list = v.front.list ++ steps_of v.table notes; announcements = g.N.Naming.announcements } =
    rw (c.settle.ensures.desk, log) at c.announce.ensures in
    let landed : fold noted (v.table, v.front) (notes ++ Mark c.again.result ∷ []) ≡ (c.self.inside.booked, c.again.result) = marked v.table c.self.inside.booked v.front c.again.result notes c.self.invariant.leads in
    let end = rw (c.append.ensures.desk, c.in_ok-append.ensures.pending, c.settle.ensures.desk, log) at c.in-Ok.ensures.ok in
    let front : c.advance.new.writer.desk.shown.value.front ≡ record { list = v.front.list ++ steps_of v.table notes; announcements = g.N.Naming.announcements } = end.1 ∙ (ap (λ p. p.1) landed ∙ (c.again.ensures ∙ announced)) in
    let lists : v.front.list ++ steps_of v.table notes ≡ c.args.self.now.list ++ c.args.self.now.pending = ap (λ (h : PublishedValue). h.list ++ h.pending) c.self.view_is in
    let caught_up = c.caught_up-inner.ensures in
    rw (caught_up.desk) (ap (λ (f : Announced). f.list) front ∙ lists)

pub returns-clause-pending : goal.returns-clause-pending
returns-clause-pending g c =
    let end = c.in-Ok.ensures.ok in
    let caught_up = c.caught_up-inner.ensures in
    rw (caught_up.log.0, caught_up.log.1, end.2, c.in_ok-settle.ensures.settled) refl

pub returns-clause-stamp : goal.returns-clause-stamp
returns-clause-stamp g c = search rules
