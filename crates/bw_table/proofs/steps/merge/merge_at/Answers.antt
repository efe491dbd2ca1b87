use Rattle.bw_table.proofs.Writes.{merged_slots}
use Rattle.bw_table.proofs.steps.merge.merge_at.Goals as goal

pub returns : goal.returns
returns g c =
    let given = c.give_up-given in
    merged_slots c.args.slots.now.items c.args.left.0 c.args.page.0 c.index_mut.result.now given.new.self given.result c.index_mut-2.result.now c.take_in.new.self
    c.requires.left_exists c.requires.exists c.requires.apart
    c.index_mut.ensures.value given.ensures.slot given.ensures.given
    c.index_mut-2.ensures.value c.take_in.ensures
