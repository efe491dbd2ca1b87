use Rattle.std.proofs.Common.{arith}
use Rattle.bw_forest.specs.Bounds.{begun}
use Rattle.bw_chain.proofs.Quarters.{at_most_three, passed, not_passed}
use Rattle.bw_forest.proofs.bounds.count_quarters.Goals as goal

pub overflow_mul-result : goal.overflow_mul-result
overflow_mul-result c =
    let three = at_most_three c.one_if_begun-first.result c.one_if_begun-second.result c.one_if_begun-third.result c.args.quarter
    (omega arith) (omega arith) (omega arith) in
    omega (arith, three)

pub returns-clause-three : goal.returns-clause-three
returns-clause-three c =
    at_most_three c.one_if_begun-first.result c.one_if_begun-second.result c.one_if_begun-third.result c.args.quarter
    (omega arith) (omega arith) (omega arith)

pub returns-clause-least : goal.returns-clause-least
returns-clause-least c =
    passed c.one_if_begun-first.result c.one_if_begun-second.result c.one_if_begun-third.result c.args.quarter c.args.place
    (begun c.args.key c.args.lows.now)
    c.one_if_begun-first.ensures c.one_if_begun-second.ensures c.one_if_begun-third.ensures c.requires.some c.requires.from

pub returns-clause-most : goal.returns-clause-most
returns-clause-most c =
    not_passed c.one_if_begun-first.result c.one_if_begun-second.result c.one_if_begun-third.result c.args.quarter c.args.place
    (begun c.args.key c.args.lows.now)
    c.one_if_begun-first.ensures c.one_if_begun-second.ensures c.one_if_begun-third.ensures c.requires.some
