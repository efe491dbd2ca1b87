use Rattle.bw_delta.specs.Slices.{list_of}
use Rattle.nifforan.specs.Maps.{pairs_of}
use Rattle.nifforan.proofs.Appending.{back_ascends, config_after, has_behind}
use Rattle.nifforan.proofs.worker.Worker.append_at_edge.Goals as goal

pub append-done-requires : goal.append-done-requires
append-done-requires g c = back_ascends (pairs_of c.args.self.now.owner.table.value.slots) (list_of c.args.run) c.requires.behind

pub returns-clause-puts : goal.returns-clause-puts
returns-clause-puts g c = λ yes.
    let it = c.append-done.ensures.done yes in
    (has_behind (list_of c.args.run) c.args.self.now.owner.table.value c.append-done.new.table it.page c.law.ensures.lawful
    c.law.ensures.booked c.requires.behind it.appends).pairs

pub returns-clause-config : goal.returns-clause-config
returns-clause-config g c =
    config_after (list_of c.args.run) c.args.self.now.owner.table.value c.append-done.new.table c.append-done.result c.law.ensures.lawful
    c.law.ensures.booked c.requires.behind c.append-done.ensures.done c.append-done.ensures.unchanged
