use Rattle.std.proofs.Common.{◌<◌, ◌∙◌, sym, arith, rules}
use Rattle.bw_keys.specs.Ranges.{key_count}
use Rattle.bw_table.proofs.Ways.{next_is_proper}
use Rattle.bw_table.proofs.table.Table.visit.Goals as goal

pub returns-in-Some : goal.returns-in-Some
returns-in-Some g c =
    let is_key : c.args.key < key_count = omega arith in
    let proper =
    next_is_proper c.args.self.now c.args.place c.args.key c.args.goal c.in-Some.slot.now c.next.result c.in-Some.ensures.lawful is_key c.in-Some.ensures.there
    (sym c.is_there.ensures ∙ c.if-is_there.true) c.next.ensures in
    record { answer = search rules; gone = proper.gone; stays = proper.stays; nearer = proper.nearer; found = proper.found }
