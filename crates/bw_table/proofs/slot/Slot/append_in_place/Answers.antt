use Rattle.std.proofs.Common.{refl, sym, ◌∙◌}
use Rattle.bw_delta.specs.Slices.{list_of}
use Rattle.bw_table.proofs.Appends.{slot_appended}
use Rattle.bw_table.proofs.slot.Slot.append_in_place.Goals as goal

pub returns-clause-appended : goal.returns-clause-appended
returns-clause-appended g c = λ yes.
    let done = c.append_in_place.ensures in
    let depth = rw (← c.self.view_is) at c.requires.no_records in
    let here = sym c.is_in_row.ensures ∙ c.if-not-is_in_row.false in
    rw (← c.self.view_is, here)
    (slot_appended (list_of c.args.pairs) _ c.self.inside.chain c.append_in_place.new.chain c.len-count.result refl depth
    (done.appended c.if-not-append_in_place.false) c.len-count.ensures)
