use Rattle.std.proofs.Common.{refl, sym, ◌∙◌, arith}
use Rattle.bw_keys.specs.Ranges.{end_of}
use Rattle.nifforan.proofs.Updates.{none_updated, altered, updates_whole, updates_before, updates_on, fewer_left, not_done}
use Rattle.nifforan.proofs.Rooms.{full_still}
use Rattle.nifforan.proofs.map.Map.update_each.Goals as goal

pub loop-pair-init : goal.loop-pair-init
loop-pair-init g c = (
  c.requires,
  none_updated _ c.args.new (end_of c.args.low)
      (end_of c.args.high) c.args.self.now.pairs,
  refl,
  omega arith,
  λ none. absurd (cc none),
)

pub returns-in_err-done-clause-updates : goal.returns-in_err-done-clause-updates
returns-in_err-done-clause-updates g c =
    let at_key = altered _ c.in-Some.pair.key c.in-Some.pair.value c.loop-pair.new c.first_altered.new.new _
    (rw c.walk.ensures at c.in-Some.ensures.alters) in
    rw c.in_err-done.ensures.unchanged (updates_before _ c.args.new c.loop-pair.new c.first_altered.new.new (end_of c.args.low)
    (end_of c.args.high) (end_of c.loop-pair.next) c.args.self.now.pairs c.loop-pair.self.pairs c.loop-pair.invariant.1
    c.in-Some.pair.key c.in-Some.pair.value at_key _ (not_done c.from_residual.result _ c.from_residual.ensures.1))

pub loop-pair-smaller : goal.loop-pair-smaller
loop-pair-smaller g c =
    let at_key = altered _ c.in-Some.pair.key c.in-Some.pair.value c.loop-pair.new c.first_altered.new.new _
    (rw c.walk.ensures at c.in-Some.ensures.alters) in
    fewer_left _ c.args.new c.loop-pair.new c.first_altered.new.new (end_of c.args.low) (end_of c.args.high)
    (end_of c.loop-pair.next) c.args.self.now.pairs c.loop-pair.self.pairs c.loop-pair.invariant.1 c.in-Some.pair.key
    c.in-Some.pair.value at_key _ c.law-in-Some.ensures.rise
    (end_of c.fence_behind-next.result) c.set_found.new.self.pairs c.in_ok-done.ensures.sets.1 c.fence_behind-next.ensures

pub loop-pair-preserved : goal.loop-pair-preserved
loop-pair-preserved g c =
    let at_key = altered _ c.in-Some.pair.key c.in-Some.pair.value c.loop-pair.new c.first_altered.new.new _
    (rw c.walk.ensures at c.in-Some.ensures.alters) in
    let goes = updates_on _ c.args.new c.loop-pair.new c.first_altered.new.new (end_of c.args.low) (end_of c.args.high)
    (end_of c.loop-pair.next) c.args.self.now.pairs c.loop-pair.self.pairs c.loop-pair.invariant.1 c.in-Some.pair.key
    c.in-Some.pair.value at_key _ c.law-in-Some.ensures.rise
    (end_of c.fence_behind-next.result) c.set_found.new.self.pairs c.in_ok-done.ensures.sets.1 c.fence_behind-next.ensures in (
      c.in-Some.ensures.callable,
      goes,
      c.in_ok-done.ensures.config ∙ c.loop-pair.invariant.2,
      omega
          (arith, c.in_ok-done.ensures.pages, c.loop-pair.invariant.3),
      λ is. full_still c.loop-pair.fault c.in_ok-done.done.fault
          c.loop-pair.self c.set_found.new.self c.loop-pair.invariant.4 c.in_ok-done.ensures.full c.in_ok-done.ensures.pages
          c.in_ok-done.ensures.config (sym c.or-fault.ensures ∙ is),
    )

pub returns-clause-updates : goal.returns-clause-updates
returns-clause-updates g c =
    updates_whole _ c.args.new c.loop-pair.new c.first_altered.new.new (end_of c.args.low) (end_of c.args.high)
    (end_of c.loop-pair.next) c.args.self.now.pairs c.loop-pair.self.pairs c.loop-pair.invariant.1 _
    (rw c.walk.ensures at (rw c.in_default.is at c.first_altered.ensures.alters))
