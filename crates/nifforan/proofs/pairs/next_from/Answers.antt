use Rattle.std.proofs.Common.{◌<◌, arith}
use Rattle.bw_keys.specs.Ranges.{key_count}
use Rattle.bw_delta.specs.Slices.{list_of}
use Rattle.nifforan.proofs.Reading.{at_once, lent_is_next, lent_is_held, rest_is_next}
use Rattle.nifforan.proofs.pairs.next_from.Goals as goal

pub returns-in-Some-clause-next : goal.returns-in-Some-clause-next
returns-in-Some-clause-next g c =
    let is_key : c.args.key < key_count = omega (arith, c.ranges.key.fits) in
    lent_is_next c.args.table.now c.args.leaf.now c.args.key c.args.key (at_once c.args.table.now c.args.leaf.now c.args.key is_key c.requires.leaf) c.in-Some.pair (list_of c.take_first.new.lent) (rw c.in-Some.ensures.first at (c.requires.lent is_key))

pub returns-in-Some-clause-leaf : goal.returns-in-Some-clause-leaf
returns-in-Some-clause-leaf g c =
    let is_key : c.args.key < key_count = omega (arith, c.ranges.key.fits) in
    lent_is_held c.args.table.now c.args.leaf.now c.args.key c.args.key (at_once c.args.table.now c.args.leaf.now c.args.key is_key c.requires.leaf) c.in-Some.pair (list_of c.take_first.new.lent) (rw c.in-Some.ensures.first at (c.requires.lent is_key))

pub returns-in-Some-clause-lent : goal.returns-in-Some-clause-lent
returns-in-Some-clause-lent g c _ =
    let is_key : c.args.key < key_count = omega (arith, c.ranges.key.fits) in
    rest_is_next c.args.table.now c.args.leaf.now c.args.key c.args.key (at_once c.args.table.now c.args.leaf.now c.args.key is_key c.requires.leaf) c.in-Some.pair (list_of c.take_first.new.lent) (rw c.in-Some.ensures.first at (c.requires.lent is_key))
