use Rattle.std.proofs.Common.{arith}
use Rattle.bw_delta.specs.Entries.{below}
use Rattle.bw_delta.specs.Slices.{list_of}
use Rattle.std.proofs.Common.{length}
use Rattle.bw_chain.proofs.Quarters.{at_most_three, passed, not_passed}
use Rattle.bw_chain.proofs.entries.sorted.count_quarters.Goals as goal

pub overflow_mul-result : goal.overflow_mul-result
overflow_mul-result g c =
    let three = at_most_three c.one_if_below-first.result c.one_if_below-second.result c.one_if_below-third.result c.args.quarter (omega arith) (omega arith) (omega arith) in
    omega (arith, three)

pub returns-clause-three : goal.returns-clause-three
returns-clause-three g c = at_most_three c.one_if_below-first.result c.one_if_below-second.result c.one_if_below-third.result c.args.quarter (omega arith) (omega arith) (omega arith)

pub returns-clause-least : goal.returns-clause-least
returns-clause-least g c =
    passed c.one_if_below-first.result c.one_if_below-second.result c.one_if_below-third.result c.args.quarter c.args.place (length (below c.args.key (list_of c.args.entries)))
    c.one_if_below-first.ensures c.one_if_below-second.ensures c.one_if_below-third.ensures c.requires.some c.requires.from

pub returns-clause-most : goal.returns-clause-most
returns-clause-most g c =
    not_passed c.one_if_below-first.result c.one_if_below-second.result c.one_if_below-third.result c.args.quarter c.args.place (length (below c.args.key (list_of c.args.entries)))
    c.one_if_below-first.ensures c.one_if_below-second.ensures c.one_if_below-third.ensures c.requires.some
