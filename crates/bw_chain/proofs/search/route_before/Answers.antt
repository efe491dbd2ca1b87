use Rattle.std.proofs.Common.{◌≡◌, sym, ap, arith}
use Rattle.bw_delta.specs.Entries.{last_entry}
use Rattle.bw_delta.specs.Pairs.{routes}
use Rattle.bw_chain.proofs.Lasts.{below_zero}
use Rattle.bw_chain.proofs.search.route_before.Goals as goal

pub returns-in-None : goal.returns-in-None
returns-in-None g c =
    let zero : c.args.key ≡ 0 = omega (arith, c.in-None.ensures) in
    rw zero (sym (ap last_entry (below_zero (routes c.args.chain.now))))
