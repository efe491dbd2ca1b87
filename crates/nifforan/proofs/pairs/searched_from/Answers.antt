use Rattle.std.proofs.Common.{◌∙◌, ap, arith}
use Rattle.std.specs.Prelude.{max}
use Rattle.bw_keys.specs.Ranges.{key_count}
use Rattle.bw_delta.specs.Slices.{list_of}
use Rattle.bw_table.specs.Orders.{HasNoKeyWithin}
use Rattle.nifforan.proofs.Reading.{lent_is_next, lent_is_held, rest_is_next, next_is_found, found_is_held, where_none, none_from, goes_right, fewer_left, none_is_left, held_for}
use Rattle.nifforan.proofs.pairs.searched_from.Goals as goal

pub returns-in-Some-clause-next : goal.returns-in-Some-clause-next
returns-in-Some-clause-next g c = lent_is_next c.args.table.now c.leaves.leaf c.args.key c.leaves.from c.leaves.invariant c.in-Some.pair (list_of c.take_first.new.lent) (rw c.in-Some.ensures.first at c.pairs_from.ensures)

pub returns-in-Some-clause-leaf : goal.returns-in-Some-clause-leaf
returns-in-Some-clause-leaf g c = lent_is_held c.args.table.now c.leaves.leaf c.args.key c.leaves.from c.leaves.invariant c.in-Some.pair (list_of c.take_first.new.lent) (rw c.in-Some.ensures.first at c.pairs_from.ensures)

pub returns-in-Some-clause-lent : goal.returns-in-Some-clause-lent
returns-in-Some-clause-lent g c _ = rest_is_next c.args.table.now c.leaves.leaf c.args.key c.leaves.from c.leaves.invariant c.in-Some.pair (list_of c.take_first.new.lent) (rw c.in-Some.ensures.first at c.pairs_from.ensures)

pub returns-in-Some-clause-last : goal.returns-in-Some-clause-last
returns-in-Some-clause-last g c = held_for c.args.table.now c.leaves.leaf c.args.key c.leaves.from c.leaves.invariant key_count (omega (arith, c.leaves.invariant.is_key))

pub right_sibling-requires : goal.right_sibling-requires
right_sibling-requires g c =
    let held = c.leaves.invariant.held in
    record { in_row = rw c.pid.ensures held.in_row; leaf = rw c.pid.ensures held.is_leaf }

pub leaves-preserved : goal.leaves-preserved
leaves-preserved g c =
    let right = rw c.pid.ensures at c.in_ok-sibling.ensures.sibling in
    goes_right c.args.table.now c.leaves.leaf c.args.key c.leaves.from c.leaves.invariant c.in_ok-sibling.sibling c.max-from.result right
    (omega (arith, c.max-from.type_inv))
    (c.max-from.ensures ∙ ap (max c.leaves.from) c.low.ensures)
    (none_from c.has_pair_from.result _ c.has_pair_from.ensures c.if-has_pair_from.false)

pub leaves-smaller : goal.leaves-smaller
leaves-smaller g c = fewer_left c.args.table.now c.leaves.leaf c.args.key c.leaves.from c.leaves.invariant c.in_ok-sibling.sibling
    (rw c.pid.ensures at c.in_ok-sibling.ensures.sibling)

pub returns-then-has_pair_from-clause-next : goal.returns-then-has_pair_from-clause-next
returns-then-has_pair_from-clause-next g c = next_is_found c.args.table.now c.leaves.leaf c.args.key c.leaves.from c.leaves.invariant
    c.next_at.result c.next_at.ensures

pub returns-then-has_pair_from-clause-leaf : goal.returns-then-has_pair_from-clause-leaf
returns-then-has_pair_from-clause-leaf g c = found_is_held c.args.table.now c.leaves.leaf c.args.key c.leaves.from c.leaves.invariant
    c.next_at.result c.next_at.ensures

pub returns-in_err-sibling-clause-none : goal.returns-in_err-sibling-clause-none
returns-in_err-sibling-clause-none g c =
    let top = rw c.pid.ensures at (c.right_sibling.ensures.last.0 c.in_err-sibling.was) in
    where_none (HasNoKeyWithin c.args.table.now c.args.key key_count) c.from_residual.result
    (none_is_left c.args.table.now c.leaves.leaf c.args.key c.leaves.from c.leaves.invariant top
    (none_from c.has_pair_from.result _ c.has_pair_from.ensures c.if-has_pair_from.false))
