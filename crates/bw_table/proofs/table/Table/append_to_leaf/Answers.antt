use Rattle.std.proofs.Common.{refl, ap, arith}
use Rattle.bw_delta.specs.Slices.{list_of}
use Rattle.bw_step.specs.Stages.{is_in_row}
use Rattle.bw_table.proofs.Appends.{append_is_inside, takes_each, appended_at_once, unappended_why, whole_each}
use Rattle.bw_table.proofs.Whole.{has_sound_chain}
use Rattle.bw_table.proofs.table.Table.append_to_leaf.Goals as goal

pub append_at-requires : goal.append_at-requires
append_at-requires g c =
    let may = rw (← c.self.view_is) at (c.may_append.ensures.may c.if-not-may_append.false) in
    record {
      exists = append_is_inside c.args.page.0 c.self.invariant may;
      in_row = ap is_in_row may.posted;
      sound = has_sound_chain _ c.args.page.0 c.self.invariant.lawful;
      rise = c.requires;
      takes = takes_each c.args.page.0 c.self.invariant may;
    }

pub returns-then-not-may_append-clause-why : goal.returns-then-not-may_append-clause-why
returns-then-not-may_append-clause-why g c = λ may. c.may_append.ensures.unfit c.if-not-may_append.true may.takes

pub invariant_of-self : goal.invariant_of-self
invariant_of-self g c = rw c.in-Err.ensures.unchanged c.self.invariant

pub returns-in-Err-clause-why : goal.returns-in-Err-clause-why
returns-in-Err-clause-why g c =
    unappended_why c.args.self.now c.args.page.0 (list_of c.args.pairs) (c.may_append.ensures.may c.if-not-may_append.false)
    c.in-Err.why (rw (← c.self.view_is) c.in-Err.ensures.why)

pub returns-in-Err-clause-unchanged : goal.returns-in-Err-clause-unchanged
returns-in-Err-clause-unchanged g c = rw (← c.self.view_is, c.in-Err.ensures.unchanged) refl

pub overflow_add-self : goal.overflow_add-self
overflow_add-self g c =
    let may = rw (← c.self.view_is) at (c.may_append.ensures.may c.if-not-may_append.false) in
    omega (arith, may.number_fits, c.len.ensures)

pub invariant_of-self-2 : goal.invariant_of-self-2
invariant_of-self-2 g c =
    let may = rw (← c.self.view_is) at (c.may_append.ensures.may c.if-not-may_append.false) in
    let it = c.in_default.ensures in
    let done = appended_at_once c.args.page.0 c.self.invariant may it.behind it.appended in
    rw c.len.ensures (whole_each c.args.page.0 _ (list_of c.args.pairs) _ _ c.self.invariant done)

pub returns-clause-done : goal.returns-clause-done
returns-clause-done g c =
    let may = rw (← c.self.view_is) at (c.may_append.ensures.may c.if-not-may_append.false) in
    let it = c.in_default.ensures in
    rw (← c.self.view_is, c.len.ensures) (appended_at_once c.args.page.0 c.self.invariant may it.behind it.appended)
