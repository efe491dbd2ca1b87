use Rattle.std.proofs.Common.{◌+◌, ◌/◌, ◌≤◌, refl, arith}
use Rattle.nifforan.proofs.reserve.pages_for.Goals as goal

pub returns-clause-room : goal.returns-clause-room
returns-clause-room c leaves above enough levels =
    let few : leaves ≤ c.args.pairs / 32 + 1 = omega (arith, enough) in
    omega (arith, few, c.pages_above.ensures.all leaves above few levels)

pub returns-clause-wanted : goal.returns-clause-wanted
returns-clause-wanted c = (c.args.pairs / 32 + 1, c.pages_above.result, omega arith, c.pages_above.ensures.wanted (omega arith), refl)
