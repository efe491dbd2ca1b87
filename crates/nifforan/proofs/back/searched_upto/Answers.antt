use Rattle.std.proofs.Common.{sym, ◌∙◌, arith}
use Rattle.std.specs.Prelude.{◌≡◌, ◌+◌}
use Rattle.bw_chain.proofs.Lasts.{last_below-bound}
use Rattle.bw_delta.specs.Entries.{below}
use Rattle.bw_delta.specs.Slices.{list_of}
use Rattle.nifforan.proofs.Behind.{lent_is_previous, lent_is_under, rest_is_before, previous_is_here, none_past, none_at_all, held_under, ends_with_none}
use Rattle.nifforan.proofs.back.searched_upto.Goals as goal

pub returns-in-Some-clause-previous : goal.returns-in-Some-clause-previous
returns-in-Some-clause-previous g c = lent_is_previous c.args.table.now c.leaves.leaf c.args.key c.leaves.upto c.leaves.invariant c.in-Some.pair (list_of c.take_last.new.lent) (rw c.in-Some.ensures.last at c.pairs_upto.ensures)

pub returns-in-Some-clause-leaf : goal.returns-in-Some-clause-leaf
returns-in-Some-clause-leaf g c = lent_is_under c.args.table.now c.leaves.leaf c.args.key c.leaves.upto c.leaves.invariant c.in-Some.pair (list_of c.take_last.new.lent) (rw c.in-Some.ensures.last at c.pairs_upto.ensures)

pub returns-in-Some-clause-lent : goal.returns-in-Some-clause-lent
returns-in-Some-clause-lent g c _ = rest_is_before c.args.table.now c.leaves.leaf c.args.key c.leaves.upto c.leaves.invariant c.in-Some.pair (list_of c.take_last.new.lent) (rw c.in-Some.ensures.last at c.pairs_upto.ensures)

pub returns-in-Some-previous_at-clause-previous : goal.returns-in-Some-previous_at-clause-previous
returns-in-Some-previous_at-clause-previous g c = previous_is_here c.args.table.now c.leaves.leaf c.args.key c.leaves.upto c.leaves.invariant c.in-Some-previous_at.pair (sym c.previous_at.ensures ∙ c.in-Some-previous_at.is)

pub returns-in-Some-previous_at-clause-leaf : goal.returns-in-Some-previous_at-clause-leaf
returns-in-Some-previous_at-clause-leaf g c =
    let less = last_below-bound (c.leaves.upto + 1) c.in-Some-previous_at.pair c.leaves.leaf.pairs (sym c.previous_at.ensures ∙ c.in-Some-previous_at.is) in
    held_under c.args.table.now c.leaves.leaf c.args.key c.leaves.upto c.leaves.invariant c.in-Some-previous_at.pair.0 (omega (arith, less))

pub returns-in-Some-previous_at-clause-lent : goal.returns-in-Some-previous_at-clause-lent
returns-in-Some-previous_at-clause-lent g c _ = ends_with_none (below c.in-Some-previous_at.pair.0 c.leaves.leaf.pairs) (list_of c.take_last.new.lent) c.in_default.ensures.none

pub leaves-preserved : goal.leaves-preserved
leaves-preserved g c =
    let low : c.in-Some-checked_sub.before + 1 ≡ c.leaves.leaf.low = omega (arith, c.in-Some-checked_sub.ensures.0, c.in-Some-checked_sub.ensures.1, c.low.ensures) in record {
      earlier = omega (arith, c.leaves.invariant.earlier, c.min-upto.ensures);
      none = none_past c.args.table.now c.leaves.leaf c.args.key c.leaves.upto c.leaves.invariant c.in-Some-checked_sub.before c.min-upto.result low c.min-upto.ensures (sym c.previous_at.ensures ∙ c.in_default-previous_at.is);
      held = record { pairs = c.leaf_of.ensures.pairs; ends = omega (arith, c.leaf_of.ensures.high) };
    }

pub returns-in-None-clause-none : goal.returns-in-None-clause-none
returns-in-None-clause-none g c =
    none_at_all c.args.table.now c.leaves.leaf c.args.key c.leaves.upto c.leaves.invariant (omega (arith, c.in-None.ensures, c.low.ensures)) (sym c.previous_at.ensures ∙ c.in_default-previous_at.is)
