use Rattle.std.proofs.Common.{length, ap, sym, ◌∙◌}
use Rattle.nifforan.specs.Maps.{MapValue, pairs_of}
use Rattle.nifforan.proofs.Listing.{pairs_are}
use Rattle.nifforan.proofs.map.Map.len.Goals as goal

pub returns : goal.returns
returns g c =
    let table = c.self.inside.worker.owner.table.value in
    sym (c.book-book.ensures.pairs (pairs_of table.slots) (pairs_are table c.self.invariant.lawful)) ∙ ap (λ (m : MapValue). length m.pairs) c.self.view_is
