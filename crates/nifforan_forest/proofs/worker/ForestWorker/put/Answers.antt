use Rattle.std.proofs.Common.{◌<◌, length, refl, arith}
use Rattle.bw_forest.specs.Bounds.{IsTreeOf}
use Rattle.nifforan_forest.proofs.Placing.{of_one, still_placed}
use Rattle.nifforan_forest.proofs.worker.ForestWorker.put.Goals as goal

pub invariant_of-self-clause-placed : goal.invariant_of-self-clause-placed
invariant_of-self-clause-placed g c =
    still_placed g.H.ForestHand.range g.H.ForestHand.bounds c.args.self.now.hands.items c.args.self.now.placed c.tree_of-tree.result
    c.index_mut.result.now c.put.new.self c.index_mut.ensures.value
    (g.met.H.ForestHand.stays_there c.index_mut.result.now c.put.new.self c.put.ensures.follows)

pub returns : goal.returns
returns g c =
    let hands = c.args.self.now.hands.items in
    let tree = c.tree_of-tree.result in
    let holds : IsTreeOf g.H.ForestHand.bounds c.args.key tree = rw c.args.self.now.divided at c.tree_of-tree.ensures.tree in
    let less : tree < length hands = omega (arith, c.tree_of-tree.ensures.there, c.args.self.now.each) in
    record {
      write =
          of_one g.H.ForestHand.range g.H.ForestHand.bounds hands c.args.self.now.placed tree c.index_mut.result.now c.args.key
          (length hands) g.H.Steps.follows _ c.put.new.self holds less refl c.index_mut.ensures.value c.put.ensures.follows
          c.put.ensures.write;
    }
