use Rattle.std.proofs.Common.{ℕ, ◌+◌, sym, ◌∙◌, refl}
use Rattle.bw_keys.specs.declared.page.Pid.{Pid}
use Rattle.bw_delta.specs.Entries.{last_upto}
use Rattle.bw_law.specs.Slots.{routes_in}
use Rattle.bw_table.specs.Visits.{own_todo}
use Rattle.bw_table.proofs.LiveRoutes.{dead_is_passed, live_is_last, none_is_live, live_asks_nothing, dead_is_dropped}
use Rattle.bw_table.proofs.table.Table.next_down.Goals as goal

pub returns-in_default : goal.returns-in_default
returns-in_default g c =
    let none = none_is_live c.args.self.now.slots c.args.slot.now c.requires.in_row c.requires.sound (c.args.key + 1) (sym c.child.ensures ∙ c.in_default.is) in rw none refl

pub returns-then-not-is_merged : goal.returns-then-not-is_merged
returns-then-not-is_merged g c =
    let slots = c.args.self.now.slots in
    let slot = c.args.slot.now in
    let route : ℕ × Pid = (c.in-Some.separator, c.in-Some.child) in
    let found = sym c.in-Some.ensures in
    let live = sym c.is_merged.ensures ∙ c.if-not-is_merged.true in
    let first = live_is_last slots slot c.requires.in_row c.requires.sound (c.args.key + 1) route found live in
    let todo = live_asks_nothing slots (own_todo slot.stage c.args.pid) (last_upto c.args.key (routes_in slot)) route found live in
    rw (first, c.down.ensures, c.todo.ensures, ← todo) refl

pub returns-in-Some-live_route_before : goal.returns-in-Some-live_route_before
returns-in-Some-live_route_before g c =
    let slots = c.args.self.now.slots in
    let slot = c.args.slot.now in
    let route : ℕ × Pid = (c.in-Some.separator, c.in-Some.child) in
    let found = sym c.in-Some.ensures in
    let dead = sym c.is_merged.ensures ∙ c.if-not-is_merged.false in
    let passed = dead_is_passed slots slot c.requires.in_row c.requires.sound (c.args.key + 1) route found dead in
    let todo = dead_is_dropped slots (last_upto c.args.key (routes_in slot)) route found dead in
    rw (passed, ← c.in-Some-live_route_before.ensures, c.down-in-Some-live_route_before.ensures, c.or.ensures, c.todo-in-Some-live_route_before.ensures, ← todo) refl

pub returns-in-None : goal.returns-in-None
returns-in-None g c =
    let route : ℕ × Pid = (c.in-Some.separator, c.in-Some.child) in
    let dead = sym c.is_merged.ensures ∙ c.if-not-is_merged.false in
    let passed = dead_is_passed c.args.self.now.slots c.args.slot.now c.requires.in_row c.requires.sound (c.args.key + 1) route (sym c.in-Some.ensures) dead in
    rw (passed, ← c.live_route_before.ensures, c.in-None.is) refl
