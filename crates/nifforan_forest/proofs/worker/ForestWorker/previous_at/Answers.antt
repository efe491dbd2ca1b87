use Rattle.std.proofs.Common.{rules, ◌≡◌, ℕ, ◌<◌, ◌+◌, ◌-◌, Option, Some, length, refl, sym, subst, arith}
use Rattle.std.specs.Prelude.{slice_get}
use Rattle.std.proofs.lemmas.Option.{slice_get_read}
use Rattle.bw_forest.specs.Bounds.{IsTreeOf}
use Rattle.nifforan_forest.specs.Answers.{HaveNone}
use Rattle.nifforan_forest.proofs.Asking.{none_before}
use Rattle.nifforan_forest.proofs.worker.ForestWorker.previous_at.Goals as goal

pub trees-init : goal.trees-init
trees-init g c =
    let holds : IsTreeOf g.H.ForestHand.bounds c.args.key c.tree_of-end.result = search rules in
    record {
      none = (c.tree_of-end.result, holds, omega arith, λ tree hand from below. absurd (omega (arith, from, below)));
      there = omega (arith, c.tree_of-end.ensures.there, c.args.self.now.each);
    }

pub trees-preserved : goal.trees-preserved
trees-preserved g c =
    let none = c.trees.invariant.none in
    let hands = c.args.self.now.hands.items in
    let tree = c.trees.end - 1 in
    let less : tree < length hands = omega (arith, c.trees.invariant.there, c.trees-test.true) in
    let is : slice_get hands tree ≡ Some c.index.result.now =
    slice_get_read hands (length hands) tree c.index.result.now refl less c.index.ensures in
    let same : tree + 1 ≡ c.trees.end = omega (arith, c.trees-test.true) in
    let answers = λ (hand : g.row.H.Denot) (pair : Option (ℕ × ℕ)). g.H.Queries.comes_before hand c.args.key pair in
    record {
      none = (
        none.0,
        none.1,
        omega (arith, none.2),
        none_before answers hands tree (none.0 + 1) c.index.result.now is
            (rw c.in_default.is at c.previous_at.ensures.previous)
            (subst (λ k. HaveNone answers hands k (none.0 + 1)) (sym same) none.3),
      );
      there = omega (arith, c.trees.invariant.there);
    }

pub returns-in-Some-clause-previous : goal.returns-in-Some-clause-previous
returns-in-Some-clause-previous g c =
    let none = c.trees.invariant.none in
    let hands = c.args.self.now.hands.items in
    let tree = c.trees.end - 1 in
    let less : tree < length hands = omega (arith, c.trees.invariant.there, c.trees-test.true) in
    let is : slice_get hands tree ≡ Some c.index.result.now =
    slice_get_read hands (length hands) tree c.index.result.now refl less c.index.ensures in
    let same : tree + 1 ≡ c.trees.end = omega (arith, c.trees-test.true) in
    let answers = λ (hand : g.row.H.Denot) (pair : Option (ℕ × ℕ)). g.H.Queries.comes_before hand c.args.key pair in (
      none.0,
      none.1,
      (
        tree,
        c.index.result.now,
        omega (arith, none.2),
        is,
        rw c.in-Some.is at c.previous_at.ensures.previous,
        subst
            (λ k. HaveNone answers hands k (none.0 + 1)) (sym same) none.3,
      ),
    )

pub returns-clause-previous : goal.returns-clause-previous
returns-clause-previous g c =
    let none = c.trees.invariant.none in
    (none.0, none.1, λ tree hand from below there. none.3 tree hand (omega (arith, c.trees-test.false)) below there)
