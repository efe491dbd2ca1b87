use Rattle.std.proofs.Common.{rules, ◌≡◌, ◌+◌, arith}
use Rattle.bw_table.specs.Orders.{HasNoKeyWithin, IsPreviousAt}
use Rattle.bw_forest.proofs.Fits.{by_answer}
use Rattle.bw_forest.proofs.fitting.begins_from.Goals as goal

pub returns : goal.returns
returns g c =
    let table = c.args.table.now in
    let last = c.in-Some.last in
    let more : c.args.low ≡ last + 1 = search rules in
    let said = c.previous_at.ensures in
    rw more
    (by_answer (IsPreviousAt table last) (HasNoKeyWithin table 0 (last + 1)) c.previous_at.result c.is_none.result c.is_none.ensures
    said.previous said.none
    (λ pair is none. let upto = is.at_or_before in none pair.0 pair.1 (omega arith) (omega (arith, upto)) is.there))
