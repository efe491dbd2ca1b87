use Rattle.std.proofs.Common.{ℕ, sym, ◌∙◌, ap, subst}
use Rattle.std.specs.Iterator.{YieldsFirst}
use Rattle.bw_keys.specs.declared.range.Fence.{Fence}
use Rattle.bw_keys.specs.Ranges.{end_of}
use Rattle.nifforan.specs.Maps.{PairList, pairs_of, within}
use Rattle.nifforan.proofs.Neighbours.{none_left, next_is_first, first_is_taken, yields_progress}
use Rattle.nifforan.proofs.pairs.PairsIterator.next.Goals as goal

pub returns-in-Top-clause-steps : goal.returns-in-Top-clause-steps
returns-in-Top-clause-steps g c =
    let table = c.self.inside.table.now in
    let high : ℕ = end_of c.self.inside.high in
    let none = sym c.self.view_is ∙ (ap (λ (f : Fence). within (end_of f) high (pairs_of table.slots)) c.in-Top.is ∙ none_left table c.self.invariant.0.lawful high) in (none, none)

pub returns-clause-steps : goal.returns-clause-steps
returns-clause-steps g c =
    let table = c.self.inside.table.now in
    let high : ℕ = end_of c.self.inside.high in
    let first = next_is_first table c.self.invariant.0.lawful c.in-Key.from c.next_from-found.result c.next_from-found.ensures.next c.next_from-found.ensures.none in
    let step = first_is_taken table c.self.invariant.0.lawful c.in-Key.from high c.next_from-found.result c.below-pair.result first c.below-pair.ensures in
    let before = sym (ap (λ (f : Fence). within (end_of f) high (pairs_of table.slots)) c.in-Key.is) ∙ c.self.view_is in
    subst (λ (s : PairList). YieldsFirst (λ (left : PairList). left) s c.below-pair.result (within (end_of c.past-self-inside.result) high (pairs_of table.slots))) before
    (subst (λ (n : ℕ). YieldsFirst (λ (left : PairList). left) (within c.in-Key.from high (pairs_of table.slots)) c.below-pair.result (within n high (pairs_of table.slots))) (sym c.past-self-inside.ensures) step)

pub returns-clause-goes : goal.returns-clause-goes
returns-clause-goes g c =
    let table = c.self.inside.table.now in
    let high : ℕ = end_of c.self.inside.high in
    let first = next_is_first table c.self.invariant.0.lawful c.in-Key.from c.next_from-found.result c.next_from-found.ensures.next c.next_from-found.ensures.none in
    let step = first_is_taken table c.self.invariant.0.lawful c.in-Key.from high c.next_from-found.result c.below-pair.result first c.below-pair.ensures in
    let before = sym (ap (λ (f : Fence). within (end_of f) high (pairs_of table.slots)) c.in-Key.is) ∙ c.self.view_is in
    yields_progress _ (λ s. tt) c.args.self.now c.below-pair.result (within (end_of c.past-self-inside.result) high (pairs_of table.slots))
    (subst (λ (s : PairList). YieldsFirst (λ (left : PairList). left) s c.below-pair.result (within (end_of c.past-self-inside.result) high (pairs_of table.slots))) before
    (subst (λ (n : ℕ). YieldsFirst (λ (left : PairList). left) (within c.in-Key.from high (pairs_of table.slots)) c.below-pair.result (within n high (pairs_of table.slots))) (sym c.past-self-inside.ensures) step))
