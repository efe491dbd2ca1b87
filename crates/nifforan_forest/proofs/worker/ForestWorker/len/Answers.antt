use Rattle.std.proofs.Common.{rules, ◌≡◌, ◌+◌, ◌<◌, ◌≤◌, Some, length, refl, subst}
use Rattle.std.specs.Prelude.{slice_get}
use Rattle.std.proofs.lemmas.Option.{slice_get_read}
use Rattle.nifforan_forest.specs.Answers.{HaveTogether}
use Rattle.nifforan_forest.proofs.Asking.{capped, take_all, together_then}
use Rattle.nifforan_forest.proofs.worker.ForestWorker.len.Goals as goal

pub loop-tree-init : goal.loop-tree-init
loop-tree-init g c = (0, refl, refl)

pub loop-tree-preserved : goal.loop-tree-preserved
loop-tree-preserved g c =
    let inv = c.loop-tree.invariant in
    let hands = c.args.self.now.hands.items in
    let less : c.loop-tree.tree < length hands = search rules in
    let is : slice_get hands c.loop-tree.tree ≡ Some c.index.result.now =
    slice_get_read hands (length hands) c.loop-tree.tree c.index.result.now refl less c.index.ensures in (
      inv.0 + c.len.result,
      together_then g.H.Queries.has_pairs hands c.loop-tree.tree inv.0 c.len.result
          c.index.result.now is c.len.ensures inv.1,
      capped c.loop-tree.all inv.0 c.len.result _ inv.2
          c.saturating_add-all.ensures,
    )

pub returns : goal.returns
returns g c =
    let inv = c.loop-tree.invariant in
    let hands = c.args.self.now.hands.items in
    let all : length hands ≤ c.loop-tree.tree = search rules in
    (inv.0, subst (λ xs. HaveTogether g.H.Queries.has_pairs xs inv.0) (take_all hands c.loop-tree.tree all) inv.1, inv.2)
