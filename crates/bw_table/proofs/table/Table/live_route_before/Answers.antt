use Rattle.std.proofs.Common.{sym, ◌∙◌}
use Rattle.bw_chain.proofs.Lasts.{last_below-bound}
use Rattle.bw_law.specs.Slots.{routes_in}
use Rattle.bw_table.proofs.LiveRoutes.{dead_is_passed, live_is_last, none_is_live}
use Rattle.bw_table.proofs.table.Table.live_route_before.Goals as goal

pub returns-then-not-is_merged : goal.returns-then-not-is_merged
returns-then-not-is_merged g c =
    sym (c.routes.invariant ∙ live_is_last c.args.self.now.slots c.args.slot.now c.requires.in_row c.requires.sound c.routes.bound (c.in-Some.separator, c.in-Some.child)
    (sym c.in-Some.ensures) (sym c.is_merged.ensures ∙ c.if-not-is_merged.true))

pub routes-smaller : goal.routes-smaller
routes-smaller g c = last_below-bound c.routes.bound (c.in-Some.separator, c.in-Some.child) (routes_in c.args.slot.now) (sym c.in-Some.ensures)

pub routes-preserved : goal.routes-preserved
routes-preserved g c =
    c.routes.invariant ∙ dead_is_passed c.args.self.now.slots c.args.slot.now c.requires.in_row c.requires.sound c.routes.bound (c.in-Some.separator, c.in-Some.child)
    (sym c.in-Some.ensures) (sym c.is_merged.ensures ∙ c.if-not-is_merged.false)

pub returns : goal.returns
returns g c =
    sym (c.routes.invariant ∙ none_is_live c.args.self.now.slots c.args.slot.now c.requires.in_row c.requires.sound c.routes.bound (sym c.route_before.ensures ∙ c.in_default.is))
