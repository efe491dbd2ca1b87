use Rattle.std.proofs.Common.{◌≡◌, Some, ◌∙◌, ap, sym, arith}
use Rattle.std.proofs.lemmas.List.{get_or_read}
use Rattle.bw_law.specs.Refusals.{last_id}
use Rattle.bw_law.specs.Slots.{SlotValue, free_slot}
use Rattle.bw_law.proofs.Facts.{last_id_is_free}
use Rattle.bw_table.proofs.table.Table.new_slot.Goals as goal

pub index-requires : goal.index-requires
index-requires g c =
    omega (arith, (last_id_is_free _ c.self.invariant.lawful c.in_ok-id.id (sym c.last.ensures ∙ c.in_ok-id.was)).0)

pub returns : goal.returns
returns g c =
    let last : last_id c.self.inside.free.ids ≡ Some c.in_ok-id.id = sym c.last.ensures ∙ c.in_ok-id.was in
    let inside = (last_id_is_free _ c.self.invariant.lawful c.in_ok-id.id last).0 in
    rw (← c.self.view_is, last)
    (ap (λ (slot : SlotValue). Some slot) (get_or_read c.self.inside.slots.items c.in_ok-id.id c.index.result.now inside c.index.ensures (free_slot 0)))
