use Rattle.std.proofs.Common.{◌+◌, ◌<◌, ◌∙◌, rules, arith, length}
use Rattle.bw_audit.proofs.Indexing.{placed_at, read_itself, row_more, row_none}
use Rattle.bw_audit.proofs.index.numbered_rows.Goals as goal
use Rattle.bw_audit.proofs.index.numbered_rows.Goals.{in-Some+in_ok-push, in_default}

pub bounds-changes-place : goal.bounds-changes-place
bounds-changes-place c =
    let itself = read_itself c.args.changes.now _ c.args.places.now c.requires (c.loop-last.last + 1) (omega (arith, c.loop-last-test.true)) in
    (placed_at c.args.changes.now _ c.args.places.now c.requires (c.loop-last.last + 1) (omega (arith, c.loop-last-test.true)) _ itself c.in-Some.place c.in-Some.is).0

pub offset_bounds-changes-place : goal.offset_bounds-changes-place
offset_bounds-changes-place c =
    let itself = read_itself c.args.changes.now _ c.args.places.now c.requires (c.loop-last.last + 1) (omega (arith, c.loop-last-test.true)) in
    let inside : c.in-Some.place < length c.args.changes.now =
    (placed_at c.args.changes.now _ c.args.places.now c.requires (c.loop-last.last + 1) (omega (arith, c.loop-last-test.true)) _ itself c.in-Some.place c.in-Some.is).0 in
    search rules

pub loop-last-preserved : goal.loop-last-preserved
loop-last-preserved c =
    let itself = read_itself c.args.changes.now _ c.args.places.now c.requires (c.loop-last.last + 1) (omega (arith, c.loop-last-test.true)) in
    elim c.match-places-last.branch [
      | in-Some+in_ok-push w ↦
          rw w.rows-is (w.in_ok-push.ensures.items ∙ rw c.loop-last.invariant
          (row_more c.args.changes.now _ c.args.places.now c.requires (c.loop-last.last + 1) (omega (arith, c.loop-last-test.true)) _ itself w.in-Some.place c.loop-last.last (omega arith) w.in-Some.is _))
      | in_default w ↦
          rw (w.rows-is, c.loop-last.invariant)
          (row_none c.args.changes.now _ c.args.places.now c.requires (c.loop-last.last + 1) (omega (arith, c.loop-last-test.true)) _ itself c.loop-last.last (omega arith) (search rules))
    ]
