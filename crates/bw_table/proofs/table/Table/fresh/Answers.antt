use Rattle.bw_table.proofs.Whole.{whole_new}
use Rattle.bw_table.proofs.table.Table.fresh.Goals as goal

pub invariant_of-result : goal.invariant_of-result
invariant_of-result g c =
    rw (c.in_ok-slots.ensures.slots, c.in_ok-free.ensures.ids) (whole_new c.args.config _ c.requires c.first_slots.ensures.fits c.in_ok-free.ensures.room)
