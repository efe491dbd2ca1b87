use Rattle.std.proofs.Common.{arith}
use Rattle.bw_delta.specs.Slices.{list_of}
use Rattle.nifforan.proofs.Behind.{back_at_once, lent_is_previous, lent_is_under, rest_is_before}
use Rattle.nifforan.proofs.back.previous_in.Goals as goal

pub returns-in-Some-clause-previous : goal.returns-in-Some-clause-previous
returns-in-Some-clause-previous g c =
    lent_is_previous c.args.table.now c.args.leaf.now c.args.key c.args.key (back_at_once c.args.table.now c.args.leaf.now c.args.key c.requires.leaf) c.in-Some.pair (list_of c.take_last.new.lent) (rw c.in-Some.ensures.last at (c.requires.lent (omega arith)))

pub returns-in-Some-clause-leaf : goal.returns-in-Some-clause-leaf
returns-in-Some-clause-leaf g c =
    lent_is_under c.args.table.now c.args.leaf.now c.args.key c.args.key (back_at_once c.args.table.now c.args.leaf.now c.args.key c.requires.leaf) c.in-Some.pair (list_of c.take_last.new.lent) (rw c.in-Some.ensures.last at (c.requires.lent (omega arith)))

pub returns-in-Some-clause-lent : goal.returns-in-Some-clause-lent
returns-in-Some-clause-lent g c _ =
    rest_is_before c.args.table.now c.args.leaf.now c.args.key c.args.key (back_at_once c.args.table.now c.args.leaf.now c.args.key c.requires.leaf) c.in-Some.pair (list_of c.take_last.new.lent) (rw c.in-Some.ensures.last at (c.requires.lent (omega arith)))
