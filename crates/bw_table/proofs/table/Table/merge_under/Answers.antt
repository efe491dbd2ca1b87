use Rattle.std.proofs.Common.{arith}
use Rattle.bw_table.proofs.Mergings.{merges_in, free_has_room, merged_at_once, whole_if_merged}
use Rattle.bw_table.proofs.Undone.{not_merged_left}
use Rattle.bw_table.proofs.table.Table.merge_under.Goals as goal

pub merge_at-requires : goal.merge_at-requires
merge_at-requires g c =
    let may = rw (← c.self.view_is) at (c.may_merge_under.ensures.may c.if-not-may_merge_under.false) in
    record { takes = merges_in c.self.invariant c.args.parent.0 c.in-Some.left.0 c.args.page.0 may }

pub give_back-requires : goal.give_back-requires
give_back-requires g c =
    let may = rw (← c.self.view_is) at (c.may_merge_under.ensures.may c.if-not-may_merge_under.false) in
    omega (arith, free_has_room c.self.invariant c.args.parent.0 c.in-Some.left.0 c.args.page.0 may, c.self.invariant.free_room)

pub invariant_of-self-2 : goal.invariant_of-self-2
invariant_of-self-2 g c =
    let may = rw (← c.self.view_is) at (c.may_merge_under.ensures.may c.if-not-may_merge_under.false) in
    let it = c.in-Some-merge_at.ensures in
    let freed = rw it.version at c.give_back.ensures.ids in
    let done = merged_at_once c.self.invariant c.args.parent.0 c.in-Some.left.0 c.args.page.0 may it.merged freed in
    rw c.give_back.ensures.room (whole_if_merged _ _ c.args.parent.0 c.args.page.0 c.in-Some.left _ c.self.invariant done)

pub returns-clause-done : goal.returns-clause-done
returns-clause-done g c =
    let may = rw (← c.self.view_is) at (c.may_merge_under.ensures.may c.if-not-may_merge_under.false) in
    let it = c.in-Some-merge_at.ensures in
    let freed = rw it.version at c.give_back.ensures.ids in
    rw (← c.self.view_is, c.pages_changed.ensures) (merged_at_once c.self.invariant c.args.parent.0 c.in-Some.left.0 c.args.page.0 may it.merged freed)

pub returns-clause-fanout : goal.returns-clause-fanout
returns-clause-fanout g c =
    let may = rw (← c.self.view_is) at (c.may_merge_under.ensures.may c.if-not-may_merge_under.false) in
    rw (← c.self.view_is) may.left.fits

pub returns-then-not-may_merge_under-clause-why : goal.returns-then-not-may_merge_under-clause-why
returns-then-not-may_merge_under-clause-why g c =
    not_merged_left c.args.self.now c.args.parent.0 c.args.page.0 c.in-Some.left c.in-Some.ensures.left
    (c.may_merge_under.ensures.unfit c.if-not-may_merge_under.true)

pub returns-in_default-merge_at-clause-why : goal.returns-in_default-merge_at-clause-why
returns-in_default-merge_at-clause-why g c =
    record { left = c.in-Some.left; before = c.in-Some.ensures.left; merges = c.may_merge_under.ensures.may c.if-not-may_merge_under.false }
