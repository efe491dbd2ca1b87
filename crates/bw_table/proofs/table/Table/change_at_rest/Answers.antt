use Rattle.std.proofs.Common.{inl, inr}
use Rattle.bw_table.proofs.InPlaces.{may_change, posted_leaf_is_its, leaf_is_inside, leaf_takes, done_at_once, whole_at_once, tells_at_once}
use Rattle.bw_table.proofs.Undone.{leaf_unchanged}
use Rattle.bw_table.proofs.table.Table.change_at_rest.Goals as goal

pub change_at-requires : goal.change_at-requires
change_at-requires g c =
    let may = rw (← c.self.view_is) at (may_change c.args.self.now c.args.page.0 c.args.key c.requires (c.can_count_on.ensures.version c.if-not-can_count_on.false) (c.can_count_on.ensures.number c.if-not-can_count_on.false)) in
    record { exists = leaf_is_inside c.self.invariant may; takes = leaf_takes c.self.invariant may }

pub note-requires : goal.note-requires
note-requires g c =
    let may = rw (← c.self.view_is) at (may_change c.args.self.now c.args.page.0 c.args.key c.requires (c.can_count_on.ensures.version c.if-not-can_count_on.false) (c.can_count_on.ensures.number c.if-not-can_count_on.false)) in
    record { number = may.number }

pub invariant_of-self-2 : goal.invariant_of-self-2
invariant_of-self-2 g c =
    let may = rw (← c.self.view_is) at (may_change c.args.self.now c.args.page.0 c.args.key c.requires (c.can_count_on.ensures.version c.if-not-can_count_on.false) (c.can_count_on.ensures.number c.if-not-can_count_on.false)) in
    let it = c.in_ok-done.ensures in
    let done = done_at_once c.self.invariant may c.args.wished it.shallow it.had it.delta it.changed c.note.ensures.receipt in
    rw c.note.ensures.book (whole_at_once _ _ c.args.page.0 _ c.note.result _ _ c.self.invariant done)

pub returns : goal.returns
returns g c =
    let may = rw (← c.self.view_is) at (may_change c.args.self.now c.args.page.0 c.args.key c.requires (c.can_count_on.ensures.version c.if-not-can_count_on.false) (c.can_count_on.ensures.number c.if-not-can_count_on.false)) in
    let it = c.in_ok-done.ensures in
    let done = done_at_once c.self.invariant may c.args.wished it.shallow it.had it.delta it.changed c.note.ensures.receipt in
    rw (← c.self.view_is)
    (record {
      done = rw c.note.ensures.book done;
      map = tells_at_once _ _ c.args.page.0 c.args.key _ c.note.result _ _ c.self.invariant may.leaf done;
      leaf = posted_leaf_is_its _ c.args.page.0 c.args.key may.leaf;
      unchanged = tt;
      memory = tt;
    })

pub returns-then-not-can_count_on-clause-memory : goal.returns-then-not-can_count_on-clause-memory
returns-then-not-can_count_on-clause-memory g c = inl (inr (c.can_count_on.ensures.used_up c.if-not-can_count_on.true))

pub returns-in_err-done-clause-memory : goal.returns-in_err-done-clause-memory
returns-in_err-done-clause-memory g c =
    let leaf = rw (← c.self.view_is) at c.requires in
    let lawful = c.self.invariant.lawful in
    let wants = c.in_err-done.ensures.memory in
    rw (c.from_residual.ensures, ← c.self.view_is) (leaf_unchanged _ c.args.page.0 c.args.key c.args.wished lawful leaf wants)
