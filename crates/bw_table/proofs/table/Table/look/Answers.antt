use Rattle.std.proofs.Common.{◌≡◌, true, sym, ap, ◌∙◌}
use Rattle.bw_keys.specs.Ranges.{is_within}
use Rattle.bw_delta.specs.Entries.{at}
use Rattle.bw_law.specs.Slots.{SlotValue, pairs_in}
use Rattle.bw_law.specs.Tables.{slot_at, is_leaf_in_row}
use Rattle.bw_table.proofs.Whole.{found_is_mapped}
use Rattle.bw_table.proofs.table.Table.look.Goals as goal

pub returns-clause-map : goal.returns-clause-map
returns-clause-map g c =
    let table = c.args.self.now in
    let there = c.in_ok-slot.ensures.there in
    let slot = slot_at table c.args.pid.0 in
    let leaf : is_leaf_in_row slot ≡ true = rw (← there) (sym c.is_leaf_in_row.ensures ∙ c.if-not-is_leaf_in_row.false) in
    let within : is_within slot.low slot.high c.args.key ≡ true = rw (← there) (sym c.holds.ensures ∙ c.if-not-holds.false) in
    let found = found_is_mapped table c.args.pid.0 c.args.key c.in_ok-slot.ensures.lawful leaf within in
    rw (c.find.ensures ∙ ap (λ (s : SlotValue). at c.args.key (pairs_in s)) there) found
