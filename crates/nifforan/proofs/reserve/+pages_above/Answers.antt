use Rattle.std.proofs.Common.{arith}
use Rattle.nifforan.proofs.Rooms.{none_above, all_above, wanted_above}
use Rattle.nifforan.proofs.reserve.+pages_above.Goals as goal

pub returns-then-pages-le1-clause-all : goal.returns-then-pages-le1-clause-all
returns-then-pages-le1-clause-all t c below above few levels = none_above c.args.pages below above c.if-pages-le1.true few levels

pub returns-clause-all : goal.returns-clause-all
returns-clause-all t c below above few levels = omega (arith, all_above c.args.pages c.pages_above.result below above c.pages_above.ensures.all few levels)

pub returns-clause-wanted : goal.returns-clause-wanted
returns-clause-wanted t c some =
    wanted_above c.args.pages c.pages_above.result c.if-pages-le1.false (c.pages_above.ensures.wanted (omega arith))
