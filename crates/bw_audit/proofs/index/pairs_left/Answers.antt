use Rattle.std.proofs.Common.{◌≡◌, arith, rules, length}
use Rattle.bw_audit.proofs.Leaving.{left_first, left_last, left_none, left_some}
use Rattle.bw_audit.proofs.index.pairs_left.Goals as goal
use Rattle.bw_audit.proofs.index.pairs_left.Goals.{in-Some+in_ok-push, in_default}

pub loop-place-init : goal.loop-place-init
loop-place-init c = rw c.new-pairs.ensures.items (left_first c.args.changes.now c.args.rows.now c.requires.kept c.requires.in_order)

pub loop-place-preserved : goal.loop-place-preserved
loop-place-preserved c =
    elim c.match-pair_left.branch [
      | in-Some+in_ok-push w ↦
          rw (w.pairs-is, w.in_ok-push.ensures.items)
          (left_some c.args.changes.now c.args.rows.now c.requires.kept c.requires.in_order c.loop-place.place c.loop-place-test.true _ c.loop-place.invariant
          w.in-Some.pair (search rules) (search rules))
      | in_default w ↦
          rw w.pairs-is
          (left_none c.args.changes.now c.args.rows.now c.requires.kept c.requires.in_order c.loop-place.place c.loop-place-test.true _ c.loop-place.invariant (search rules))
    ]

pub returns : goal.returns
returns c =
    let whole : c.loop-place.place ≡ length c.args.rows.now = omega (arith, c.loop-place-test.false, c.loop-place.auto.place-end) in
    left_last c.args.changes.now c.args.rows.now c.requires.kept c.requires.in_order _ (rw whole at c.loop-place.invariant)
