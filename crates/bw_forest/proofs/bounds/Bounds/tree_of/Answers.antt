use Rattle.std.proofs.Common.{◌-◌, length, ap, sym, subst, arith}
use Rattle.bw_forest.specs.Bounds.{AreBounds, IsTreeOf, begun}
use Rattle.bw_forest.proofs.Bounding.{begun_few, begun_some, tree_begun}
use Rattle.bw_forest.proofs.bounds.Bounds.tree_of.Goals as goal

pub guess-requires : goal.guess-requires
guess-requires c =
    let are : AreBounds c.as_slice-lows.result.now = subst AreBounds (sym c.as_slice-lows.ensures.value) c.self.invariant in
    let few = begun_few c.args.key c.as_slice-lows.result.now in
    record { rise = are.rise; some = omega (arith, few, begun_some _ c.args.key are.from_zero are.rise) }

pub returns-in-Some-clause-there : goal.returns-in-Some-clause-there
returns-in-Some-clause-there c =
    let few = begun_few c.args.key c.as_slice-lows.result.now in
    let same = ap length c.as_slice-lows.ensures.value in
    rw (sym c.self.view_is) (omega (arith, few, same, c.in-Some.ensures))

pub returns-in-Some-clause-tree : goal.returns-in-Some-clause-tree
returns-in-Some-clause-tree c =
    let are : AreBounds c.as_slice-lows.result.now = subst AreBounds (sym c.as_slice-lows.ensures.value) c.self.invariant in
    let there = tree_begun _ c.args.key c.in-Some.tree are.from_zero are.rise c.ranges.key.fits c.in-Some.ensures in
    rw (sym c.self.view_is) (subst (λ bounds. IsTreeOf bounds c.args.key c.in-Some.tree) c.as_slice-lows.ensures.value there)

pub count_begun-requires : goal.count_begun-requires
count_begun-requires c =
    let are : AreBounds c.as_slice-lows.result.now = subst AreBounds (sym c.as_slice-lows.ensures.value) c.self.invariant in
    record { rise = are.rise }

pub overflow_sub-result : goal.overflow_sub-result
overflow_sub-result c =
    let are : AreBounds c.as_slice-lows.result.now = subst AreBounds (sym c.as_slice-lows.ensures.value) c.self.invariant in
    omega (arith, begun_some _ c.args.key are.from_zero are.rise, c.count_begun.ensures)

pub returns-clause-there : goal.returns-clause-there
returns-clause-there c =
    let are : AreBounds c.as_slice-lows.result.now = subst AreBounds (sym c.as_slice-lows.ensures.value) c.self.invariant in
    let some = begun_some _ c.args.key are.from_zero are.rise in
    let few = begun_few c.args.key c.as_slice-lows.result.now in
    let same = ap length c.as_slice-lows.ensures.value in
    rw (sym c.self.view_is) (omega (arith, some, few, same, c.count_begun.ensures))

pub returns-clause-tree : goal.returns-clause-tree
returns-clause-tree c =
    let are : AreBounds c.as_slice-lows.result.now = subst AreBounds (sym c.as_slice-lows.ensures.value) c.self.invariant in
    let some = begun_some _ c.args.key are.from_zero are.rise in
    let tree = begun c.args.key c.as_slice-lows.result.now - 1 in
    let there = tree_begun _ c.args.key tree are.from_zero are.rise c.ranges.key.fits (omega (arith, some)) in
    rw (sym c.self.view_is, c.count_begun.ensures) (subst (λ bounds. IsTreeOf bounds c.args.key tree) c.as_slice-lows.ensures.value there)
