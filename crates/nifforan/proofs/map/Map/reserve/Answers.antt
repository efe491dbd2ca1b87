use Rattle.std.proofs.Common.{◌+◌, length, ap, arith}
use Rattle.nifforan.specs.Maps.{MapValue}
use Rattle.nifforan.proofs.Rooms.{enough, not_so_many, too_many}
use Rattle.nifforan.proofs.map.Map.reserve.Goals as goal

pub returns-then-pages-from-clause-full : goal.returns-then-pages-from-clause-full
returns-then-pages-from-clause-full g c = λ is.
    let most = ap (λ (m : MapValue). m.config.pages) c.self.view_is in
    too_many (length c.args.self.now.pairs + c.args.additional) c.saturating_add.result c.pages_for-pages.result c.args.self.now
    (omega (arith, c.saturating_add.ensures, c.len.ensures)) c.pages_for-pages.ensures.wanted
    (omega (arith, c.if-pages-from.true, c.from.ensures, most))

pub returns-in-Ok-clause-room : goal.returns-in-Ok-clause-room
returns-in-Ok-clause-room g c =
    let most = ap (λ (m : MapValue). m.config.pages) c.self.view_is in
    enough (length c.args.self.now.pairs + c.args.additional) c.saturating_add.result c.pages_for-pages.result c.args.self.now.config.pages
    c.grow_to.new.self (omega (arith, c.saturating_add.ensures, c.len.ensures)) c.pages_for-pages.ensures.room
    c.pages_for-pages.ensures.many (omega (arith, c.if-pages-from.false, c.from.ensures, most))
    (omega (arith, c.self.invariant.few, most)) (omega (arith, c.in-Ok.ensures.pages))

pub returns-in-Ok-clause-many : goal.returns-in-Ok-clause-many
returns-in-Ok-clause-many g c = λ many.
    let most = ap (λ (m : MapValue). m.config.pages) c.self.view_is in
    absurd
    (not_so_many (length c.args.self.now.pairs + c.args.additional) c.saturating_add.result c.pages_for-pages.result
    c.args.self.now.config.pages (omega (arith, c.saturating_add.ensures, c.len.ensures)) c.pages_for-pages.ensures.many
    (omega (arith, c.if-pages-from.false, c.from.ensures, most)) (omega (arith, c.self.invariant.few, most)) many)

pub returns-in-Err-clause-many : goal.returns-in-Err-clause-many
returns-in-Err-clause-many g c = λ many.
    let most = ap (λ (m : MapValue). m.config.pages) c.self.view_is in
    absurd
    (not_so_many (length c.args.self.now.pairs + c.args.additional) c.saturating_add.result c.pages_for-pages.result
    c.args.self.now.config.pages (omega (arith, c.saturating_add.ensures, c.len.ensures)) c.pages_for-pages.ensures.many
    (omega (arith, c.if-pages-from.false, c.from.ensures, most)) (omega (arith, c.self.invariant.few, most)) many)
