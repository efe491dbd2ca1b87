use Rattle.std.proofs.Common.{rules, ◌≡◌, ◌<◌, ◌≤◌, Some, length, refl}
use Rattle.std.specs.Prelude.{slice_get}
use Rattle.std.proofs.lemmas.Option.{slice_get_read}
use Rattle.bw_forest.specs.Bounds.{IsTreeOf}
use Rattle.nifforan_forest.proofs.Asking.{none_more}
use Rattle.nifforan_forest.proofs.worker.ForestWorker.next_at.Goals as goal

pub loop-tree-preserved : goal.loop-tree-preserved
loop-tree-preserved g c =
    let hands = c.args.self.now.hands.items in
    let less : c.loop-tree.tree < length hands = search rules in
    let is : slice_get hands c.loop-tree.tree ≡ Some c.index.result.now =
    slice_get_read hands (length hands) c.loop-tree.tree c.index.result.now refl less c.index.ensures in
    none_more (λ hand pair. g.H.Queries.comes_next hand c.args.key pair) hands c.tree_of-first.result c.loop-tree.tree
    c.index.result.now is (rw c.in_default.is at c.next_at.ensures.next) c.loop-tree.invariant

pub returns-in-Some-clause-next : goal.returns-in-Some-clause-next
returns-in-Some-clause-next g c =
    let hands = c.args.self.now.hands.items in
    let less : c.loop-tree.tree < length hands = search rules in
    let is : slice_get hands c.loop-tree.tree ≡ Some c.index.result.now =
    slice_get_read hands (length hands) c.loop-tree.tree c.index.result.now refl less c.index.ensures in
    let holds : IsTreeOf g.H.ForestHand.bounds c.args.key c.tree_of-first.result = search rules in
    let past : c.tree_of-first.result ≤ c.loop-tree.tree = search rules in (
      c.tree_of-first.result,
      holds,
      (
        c.loop-tree.tree,
        c.index.result.now,
        past,
        is,
        rw c.in-Some.is at
            c.next_at.ensures.next,
        c.loop-tree.invariant,
      ),
    )
