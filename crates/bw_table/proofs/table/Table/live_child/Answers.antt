use Rattle.std.proofs.Common.{sym, ◌∙◌}
use Rattle.bw_table.proofs.Gets.{live_is_greatest, dead_is_left_out, no_child_is_live, fewer_routes_left}
use Rattle.bw_table.proofs.table.Table.live_child.Goals as goal

pub returns-then-not-is_taken_in : goal.returns-then-not-is_taken_in
returns-then-not-is_taken_in g c =
    live_is_greatest c.args.self.now.slots c.args.slot.now c.args.key c.requires.in_row c.requires.sound c.routes.route c.routes.invariant
    c.in-Some.separator c.in-Some.child c.in-Some.is (sym c.is_taken_in.ensures ∙ c.if-not-is_taken_in.true)

pub routes-smaller : goal.routes-smaller
routes-smaller g c = fewer_routes_left c.args.slot.now c.in-Some.separator c.in-Some.child c.routes.route c.route_before-route.result c.in-Some.is c.route_before-route.ensures

pub routes-preserved : goal.routes-preserved
routes-preserved g c =
    dead_is_left_out c.args.self.now.slots c.args.slot.now c.args.key c.requires.in_row c.requires.sound c.routes.route c.routes.invariant
    c.in-Some.separator c.in-Some.child c.route_before-route.result c.in-Some.is (sym c.is_taken_in.ensures ∙ c.if-not-is_taken_in.false) c.route_before-route.ensures

pub returns : goal.returns
returns g c = no_child_is_live c.args.self.now.slots c.args.slot.now c.args.key c.requires.in_row c.requires.sound c.routes.route c.routes.invariant c.in_default.is
