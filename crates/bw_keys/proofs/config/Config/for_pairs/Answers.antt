use Rattle.std.proofs.Common.{arith}
use Rattle.bw_keys.proofs.Rooms.{pages_in_all}
use Rattle.bw_keys.proofs.config.Config.for_pairs.Goals as goal

pub returns-clause-room : goal.returns-clause-room
returns-clause-room c leaves above enough levels =
    let few = c.if-pages-gt65536.false in
    let most = pages_in_all c.args.pairs leaves above (omega (arith, few)) enough levels in
    omega (arith, most, c.max.ensures)
