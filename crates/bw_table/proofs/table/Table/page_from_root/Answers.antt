use Rattle.std.proofs.Common.{sym, ◌∙◌, ap, arith}
use Rattle.bw_law.specs.Slots.{SlotValue}
use Rattle.bw_table.specs.Rests.{is_unfinished}
use Rattle.bw_step.specs.Stages.{is_in_row}
use Rattle.bw_table.proofs.Rests.{led_by, rest_goes_on, rest_ends}
use Rattle.bw_table.proofs.Todos.{root_is_come_to, come_goes_on, come_meets}
use Rattle.bw_table.proofs.table.Table.page_from_root.Goals as goal

pub walk-smaller : goal.walk-smaller
walk-smaller g c =
    let walk = c.walk.invariant in
    let slot = c.slot_inside-slot in
    let rest = ap (λ (s : SlotValue). is_unfinished s.stage) (sym c.slot.view_is) ∙ sym c.is_unfinished.ensures ∙ c.if-is_unfinished.false in
    let next = rest_goes_on c.args.self.now walk.lawful c.args.key (omega arith) c.walk.page walk.led slot.result.now slot.ensures.there rest c.in-Some.next (sym c.in-Some.is ∙ c.next_by_routes.ensures) in
    next.nearer

pub walk-preserved : goal.walk-preserved
walk-preserved g c =
    let walk = c.walk.invariant in
    let slot = c.slot_inside-slot in
    let rest = ap (λ (s : SlotValue). is_unfinished s.stage) (sym c.slot.view_is) ∙ sym c.is_unfinished.ensures ∙ c.if-is_unfinished.false in
    let is = sym c.in-Some.is ∙ c.next_by_routes.ensures in
    let table = c.args.self.now in
    let key = c.args.key in
    let page = c.walk.page in
    let to = c.in-Some.next in
    let there = slot.ensures.there in
    let next = rest_goes_on table walk.lawful key (omega arith) page walk.led slot.result.now there rest to is in
    let come = come_goes_on table walk.lawful key (omega arith) page walk.led walk.come slot.result.now there rest to is in
    record { lawful = walk.lawful; led = next.led; come = come }

pub returns-in-None-clause-leaf : goal.returns-in-None-clause-leaf
returns-in-None-clause-leaf g c =
    let walk = c.walk.invariant in
    let slot = c.slot_inside-slot in
    let rest = ap (λ (s : SlotValue). is_unfinished s.stage) (sym c.slot.view_is) ∙ sym c.is_unfinished.ensures ∙ c.if-is_unfinished.false in
    rest_ends c.args.self.now walk.lawful c.args.key (omega arith) c.walk.page walk.led slot.result.now slot.ensures.there rest (sym c.in-None.is ∙ c.next_by_routes.ensures)

pub walk-init : goal.walk-init
walk-init g c =
    let law = c.self.invariant.lawful in
    let rows = law.rows in
    rw (← c.self.view_is)
    (record {
      lawful = law;
      led = led_by _ law c.args.key _ (record { in_row = ap is_in_row rows.root_posted; low_upto = omega (arith, rows.root_first) });
      come = root_is_come_to _ c.args.key law (omega arith);
    })

pub returns-then-is_unfinished-clause-unfinished : goal.returns-then-is_unfinished-clause-unfinished
returns-then-is_unfinished-clause-unfinished g c =
    let walk = c.walk.invariant in
    let slot = c.slot_inside-slot in
    let same = ap (λ (s : SlotValue). is_unfinished s.stage) (sym c.slot.view_is) in
    let unfinished = same ∙ sym c.is_unfinished.ensures ∙ c.if-is_unfinished.true in
    let here = slot.ensures.there in
    come_meets c.args.self.now walk.lawful c.args.key (omega arith) c.walk.page walk.led walk.come slot.result.now here unfinished
