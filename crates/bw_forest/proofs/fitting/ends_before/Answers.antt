use Rattle.std.proofs.Common.{rules, ◌<◌}
use Rattle.bw_keys.specs.Ranges.{key_count}
use Rattle.bw_table.specs.Orders.{HasNoKeyWithin, IsNextAt}
use Rattle.bw_tree.proofs.Trees.{is_tree, key_within}
use Rattle.bw_forest.proofs.Fits.{by_answer}
use Rattle.bw_forest.proofs.fitting.ends_before.Goals as goal

pub returns : goal.returns
returns g c =
    let table = c.args.table.now in
    let key = c.in-Key.key in
    let said = c.next_at.ensures in
    rw c.in-Key.is
    (by_answer (IsNextAt table key) (HasNoKeyWithin table key key_count) c.next_at.result c.is_none.result c.is_none.ensures
    said.next said.none
    (λ pair is none. none pair.0 pair.1 is.at_or_past
    (key_within table (is_tree table c.law.ensures.lawful c.law.ensures.booked) pair.0 pair.1 is.there) is.there))
