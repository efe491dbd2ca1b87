use Rattle.std.proofs.Common.{sym, ◌∙◌, ap, subst, arith}
use Rattle.bw_keys.specs.Ranges.{end_of}
use Rattle.bw_table.specs.Orders.{HasNoKeyWithin}
use Rattle.bw_table.proofs.Orders.{next_in_leaf, none_in_leaf}
use Rattle.bw_table.proofs.table.Table.next_at.Given.{Over}
use Rattle.bw_table.proofs.table.Table.next_at.Goals.{In_default}
use Rattle.bw_table.proofs.table.Table.next_at.Goals as goal

none_here : (g : Over) (c : In_default g) → HasNoKeyWithin c.args.self.now c.args.key (end_of c.leaf_of-leaf.result.high)
none_here g c =
    let leaf = c.leaf_of-leaf.ensures in
    let so_far = c.leaves.invariant in
    none_in_leaf c.args.self.now _ _ _ leaf.pairs c.args.key c.leaves.from so_far.later leaf.low so_far.none (sym c.next_at.ensures ∙ c.in_default.is)

pub returns-in-Some-clause-next : goal.returns-in-Some-clause-next
returns-in-Some-clause-next g c =
    let leaf = c.leaf_of-leaf.ensures in
    let so_far = c.leaves.invariant in
    next_in_leaf c.args.self.now _ _ _ leaf.pairs c.args.key c.leaves.from so_far.later leaf.low so_far.none c.in-Some.pair (sym c.next_at.ensures ∙ c.in-Some.is)

pub leaves-preserved : goal.leaves-preserved
leaves-preserved g c =
    let ends = ap end_of (sym c.high.ensures ∙ c.in-Key.is) in
    let none = none_here g (goal.at.leaves-preserved g c).In_default in record {
      later = omega (arith, c.leaves.invariant.later, c.leaf_of-leaf.ensures.high, ends);
      none = subst (HasNoKeyWithin c.args.self.now c.args.key) ends none;
    }

pub returns-in-Top-clause-none : goal.returns-in-Top-clause-none
returns-in-Top-clause-none g c =
    let ends = ap end_of (sym c.high.ensures ∙ c.in-Top.is) in
    let none = none_here g (goal.at.returns-in-Top-clause-none g c).In_default in
    subst (HasNoKeyWithin c.args.self.now c.args.key) ends none
