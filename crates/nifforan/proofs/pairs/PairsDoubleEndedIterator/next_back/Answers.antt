use Rattle.std.proofs.Common.{ℕ, sym, ◌∙◌, arith}
use Rattle.bw_keys.specs.Ranges.{end_of}
use Rattle.nifforan.specs.Maps.{pairs_of, within}
use Rattle.nifforan.proofs.Behind.{steps_back, yields_back_progress}
use Rattle.nifforan.proofs.Neighbours.{within_none}
use Rattle.nifforan.proofs.pairs.PairsDoubleEndedIterator.next_back.Goals as goal

pub returns-in_default-clause-steps : goal.returns-in_default-clause-steps
returns-in_default-clause-steps g c =
    let next : ℕ = end_of c.self.inside.next in
    let high : ℕ = end_of c.self.inside.high in
    let none = sym c.self.view_is ∙ within_none next high (pairs_of c.self.inside.table.now.slots) (omega (arith, c.in_default.ensures.none)) in (none, none)

pub returns-clause-steps : goal.returns-clause-steps
returns-clause-steps g c =
    steps_back c.self.inside.table.now c.self.invariant.0.lawful (end_of c.self.inside.next) (end_of c.self.inside.high) c.in-Some.upto (end_of c.before-self-inside.result)
    c.previous_from-found.result c.at_or_past-pair.result c.args.self.now c.in-Some.ensures.key c.self.view_is c.previous_from-found.ensures.previous c.previous_from-found.ensures.none c.at_or_past-pair.ensures c.before-self-inside.ensures

pub returns-clause-goes : goal.returns-clause-goes
returns-clause-goes g c =
    yields_back_progress _ (λ s. tt) c.args.self.now c.at_or_past-pair.result (within (end_of c.self.inside.next) (end_of c.before-self-inside.result) (pairs_of c.self.inside.table.now.slots))
    (steps_back c.self.inside.table.now c.self.invariant.0.lawful (end_of c.self.inside.next) (end_of c.self.inside.high) c.in-Some.upto (end_of c.before-self-inside.result)
    c.previous_from-found.result c.at_or_past-pair.result c.args.self.now c.in-Some.ensures.key c.self.view_is c.previous_from-found.ensures.previous c.previous_from-found.ensures.none c.at_or_past-pair.ensures c.before-self-inside.ensures)
