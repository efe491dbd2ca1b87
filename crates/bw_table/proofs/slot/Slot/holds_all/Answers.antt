use Rattle.std.proofs.Common.{sym, ◌∙◌}
use Rattle.bw_delta.specs.Slices.{list_of}
use Rattle.bw_table.proofs.Appends.{inside_if_ends, inside_if_no_first, inside_if_no_last, outside_if_first}
use Rattle.bw_table.proofs.slot.Slot.holds_all.Goals as goal

pub returns-then-holds : goal.returns-then-holds
returns-then-holds g c =
    c.holds-then-holds.ensures
    ∙ inside_if_ends c.args.self.now.low c.args.self.now.high c.in-Some-Some.first c.in-Some-Some.last (list_of c.args.pairs) c.requires
    (sym c.in-Some-Some.is-0 ∙ c.first.ensures) (sym c.in-Some-Some.is-1 ∙ c.last.ensures) (sym c.holds.ensures ∙ c.if-holds.true)

pub returns-else-holds : goal.returns-else-holds
returns-else-holds g c =
    c.if-holds.false
    ∙ sym (outside_if_first c.args.self.now.low c.args.self.now.high c.in-Some-Some.first (list_of c.args.pairs)
    (sym c.in-Some-Some.is-0 ∙ c.first.ensures) (sym c.holds.ensures ∙ c.if-holds.false))

pub returns-in_default : goal.returns-in_default
returns-in_default g c =
    inside_if_no_last c.args.self.now.low c.args.self.now.high (list_of c.args.pairs) (sym c.in_default.is-1 ∙ c.last.ensures)

pub returns-in_default-2 : goal.returns-in_default-2
returns-in_default-2 g c =
    inside_if_no_first c.args.self.now.low c.args.self.now.high (list_of c.args.pairs) (sym c.in_default.is-0 ∙ c.first.ensures)
