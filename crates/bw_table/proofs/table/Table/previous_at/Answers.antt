use Rattle.std.proofs.Common.{◌≡◌, ◌+◌, sym, ◌∙◌, subst, arith}
use Rattle.bw_table.specs.Orders.{HasNoKeyWithin}
use Rattle.bw_table.proofs.Orders.{previous_in_leaf, none_up_in_leaf}
use Rattle.bw_table.proofs.table.Table.previous_at.Given.{Over}
use Rattle.bw_table.proofs.table.Table.previous_at.Goals.{In_default}
use Rattle.bw_table.proofs.table.Table.previous_at.Goals as goal

none_here : (g : Over) (c : In_default g) → HasNoKeyWithin c.args.self.now c.leaf_of-leaf.result.low (c.args.key + 1)
none_here g c =
    let leaf = c.leaf_of-leaf.ensures in
    let so_far = c.leaves.invariant in
    none_up_in_leaf c.args.self.now _ _ _ leaf.pairs c.args.key c.leaves.upto so_far.earlier leaf.high so_far.none (sym c.previous_at.ensures ∙ c.in_default.is)

pub returns-in-Some-clause-previous : goal.returns-in-Some-clause-previous
returns-in-Some-clause-previous g c =
    let leaf = c.leaf_of-leaf.ensures in
    let so_far = c.leaves.invariant in
    previous_in_leaf c.args.self.now _ _ _ leaf.pairs c.args.key c.leaves.upto so_far.earlier leaf.high so_far.none c.in-Some.pair (sym c.previous_at.ensures ∙ c.in-Some.is)

pub leaves-preserved : goal.leaves-preserved
leaves-preserved g c =
    let before = c.in-Some-checked_sub in
    let meets : c.leaf_of-leaf.result.low ≡ before.before + 1 = omega (arith, before.ensures, c.low.ensures) in
    let none = none_here g (goal.at.leaves-preserved g c).In_default in record {
      earlier = omega (arith, c.leaves.invariant.earlier, c.leaf_of-leaf.ensures.low, meets);
      none = subst (λ low. HasNoKeyWithin c.args.self.now low (c.args.key + 1)) meets none;
    }

pub returns-in-None-clause-none : goal.returns-in-None-clause-none
returns-in-None-clause-none g c =
    let zero : c.leaf_of-leaf.result.low ≡ 0 = omega (arith, c.in-None.ensures, c.low.ensures) in
    let none = none_here g (goal.at.returns-in-None-clause-none g c).In_default in
    subst (λ low. HasNoKeyWithin c.args.self.now low (c.args.key + 1)) zero none
