use Rattle.std.proofs.Common.{◌≡◌, false}
use Rattle.bw_forest.proofs.Fits.{lies_within, none_below, none_past}
use Rattle.bw_forest.proofs.fitting.lies_in.Goals as goal

pub returns-then-begins_from : goal.returns-then-begins_from
returns-then-begins_from g c =
    let table = c.args.table.now in
    let range = c.args.range in
    let below = c.begins_from.ensures.0 c.if-begins_from.true in (
      λ ends. lies_within table range c.law.ensures.lawful c.law.ensures.booked below (c.ends_before.ensures.0 ends),
      λ lies. c.ends_before.ensures.1 (none_past table range lies),
    )

pub returns-else-begins_from : goal.returns-else-begins_from
returns-else-begins_from g c =
    let not = c.if-begins_from.false in (
      λ begins. absurd (cc (not, begins)),
      λ lies. c.begins_from.ensures.1 (none_below c.args.table.now c.args.range lies),
    )
