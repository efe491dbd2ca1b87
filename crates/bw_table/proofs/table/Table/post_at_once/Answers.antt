use Rattle.std.proofs.Common.{refl, ap}
use Rattle.std.specs.Prelude.{Ok, true}
use Rattle.bw_step.specs.Stages.{is_in_row}
use Rattle.bw_table.proofs.InPlaces.{parent_is_inside, child_is_inside, child_is_apart, parent_takes, posted_or_not, unposted_why, whole_if_posted}
use Rattle.bw_table.proofs.table.Table.post_at_once.Goals as goal

pub post_at-requires : goal.post_at-requires
post_at-requires g c =
    let parent = c.args.parent.0 in
    let child = c.args.child.0 in
    let may = rw (← c.self.view_is) at (c.may_post_at_once.ensures.may c.if-not-may_post_at_once.false) in
    record {
      exists = parent_is_inside c.self.invariant parent child may;
      child_exists = child_is_inside c.self.invariant parent child may;
      apart = child_is_apart c.self.invariant parent child may;
      takes = parent_takes c.self.invariant parent child may;
      child_here = ap is_in_row may.unposted;
      version = may.under_version;
    }

pub returns-then-not-may_post_at_once-clause-why : goal.returns-then-not-may_post_at_once-clause-why
returns-then-not-may_post_at_once-clause-why g c = λ may. c.may_post_at_once.ensures.unfit c.if-not-may_post_at_once.true may.takes

pub invariant_of-self : goal.invariant_of-self
invariant_of-self g c = rw c.in-Err.ensures.unchanged c.self.invariant

pub returns-in-Err-clause-posted : goal.returns-in-Err-clause-posted
returns-in-Err-clause-posted g c = rw (← c.self.view_is, c.in-Err.ensures.unchanged) refl

pub returns-in-Err-clause-why : goal.returns-in-Err-clause-why
returns-in-Err-clause-why g c =
    let parent = c.args.parent.0 in
    let child = c.args.child.0 in
    let may = rw (← c.self.view_is) at (c.may_post_at_once.ensures.may c.if-not-may_post_at_once.false) in
    rw (← c.self.view_is) (unposted_why c.self.invariant parent child may c.in-Err.why c.in-Err.ensures.why)

pub invariant_of-self-2 : goal.invariant_of-self-2
invariant_of-self-2 g c =
    let parent = c.args.parent.0 in
    let child = c.args.child.0 in
    let may = rw (← c.self.view_is) at (c.may_post_at_once.ensures.may c.if-not-may_post_at_once.false) in
    let it = c.in_default.ensures in
    let posted = posted_or_not c.self.invariant parent child may (Ok tt) c.post_at.new.slots.items it.absent it.inner it.posted tt in
    whole_if_posted _ _ parent c.args.child true _ c.self.invariant posted

pub returns-clause-posted : goal.returns-clause-posted
returns-clause-posted g c =
    let parent = c.args.parent.0 in
    let child = c.args.child.0 in
    let may = rw (← c.self.view_is) at (c.may_post_at_once.ensures.may c.if-not-may_post_at_once.false) in
    let it = c.in_default.ensures in
    let posted = posted_or_not c.self.invariant parent child may (Ok tt) c.post_at.new.slots.items it.absent it.inner it.posted tt in
    rw (← c.self.view_is, c.page_finished.ensures) posted
