use Rattle.std.proofs.Common.{rules, arith, length}
use Rattle.nifforan_balance.proofs.Dividing.{begin_all, begin_first, begin_more, begins_inside, first_key}
use Rattle.nifforan_balance.proofs.balancing.lows.Goals as goal

pub loop-tree-init : goal.loop-tree-init
loop-tree-init c = record {
  so = rw (c.push_reserved.ensures.items, c.in_ok-lows.ensures.items) (begin_first c.args.pairs.now c.args.trees);
  room = search rules;
}

pub bounds-pairs-place : goal.bounds-pairs-place
bounds-pairs-place c =
    begins_inside (length c.args.pairs.now) c.args.trees c.loop-tree.tree c.place.result c.loop-tree.auto.tree c.loop-tree-test.true
    c.requires.few c.place.ensures.place

pub loop-tree-preserved : goal.loop-tree-preserved
loop-tree-preserved c =
    let pairs = c.args.pairs.now in
    let tree = c.loop-tree.tree in
    let at = c.place.ensures.place in
    let inside = begins_inside (length pairs) c.args.trees tree c.place.result c.loop-tree.auto.tree c.loop-tree-test.true
    c.requires.few at in
    record {
      so = rw c.push_reserved-in-loop-tree.ensures.items
          (begin_more pairs c.args.trees tree _ c.loop-tree.lows.items c.loop-tree.invariant.so
          (first_key pairs c.args.trees tree c.place.result at inside));
      room = search rules;
    }

pub returns : goal.returns
returns c =
    begin_all c.args.pairs.now c.args.trees c.loop-tree.tree c.loop-tree.lows.items c.loop-tree.invariant.so
    (omega (arith, c.requires.some))
