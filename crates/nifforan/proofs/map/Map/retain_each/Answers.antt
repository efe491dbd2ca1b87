use Rattle.std.proofs.Common.{refl, sym, ◌∙◌, arith}
use Rattle.bw_keys.specs.Ranges.{end_of}
use Rattle.nifforan.proofs.Retains.{none_asked, refused, ends_whole, ends_at, goes_on, less}
use Rattle.nifforan.proofs.Rooms.{full_still}
use Rattle.nifforan.proofs.map.Map.retain_each.Goals as goal

pub loop-key-init : goal.loop-key-init
loop-key-init g c = (c.requires, none_asked _ c.args.keep c.args.self.now.pairs c.law.ensures.rise, refl, omega arith, λ none. absurd (cc none))

pub returns-in-Err-clause-leaves : goal.returns-in-Err-clause-leaves
returns-in-Err-clause-leaves g c =
    let at_key = refused _ c.in-Some.key c.loop-key.keep c.first_refused.new.keep _ (rw c.walk.ensures at c.in-Some.ensures.refuses) in
    rw c.in-Err.ensures.unchanged (ends_at _ c.args.keep c.loop-key.keep c.first_refused.new.keep (end_of c.loop-key.low) c.args.self.now.pairs c.loop-key.self.pairs c.loop-key.invariant.1 c.in-Some.key at_key _ (λ none. cc none))

pub loop-key-smaller : goal.loop-key-smaller
loop-key-smaller g c =
    let at_key = refused _ c.in-Some.key c.loop-key.keep c.first_refused.new.keep _ (rw c.walk.ensures at c.in-Some.ensures.refuses) in
    less _ c.args.keep c.loop-key.keep c.first_refused.new.keep (end_of c.loop-key.low) c.args.self.now.pairs c.loop-key.self.pairs c.loop-key.invariant.1 c.in-Some.key at_key (end_of c.fence_behind-low.result) c.delete.new.self.pairs c.law-in-Some.ensures.rise c.in-Ok.ensures.deletes.1 c.fence_behind-low.ensures

pub loop-key-preserved : goal.loop-key-preserved
loop-key-preserved g c =
    let at_key = refused _ c.in-Some.key c.loop-key.keep c.first_refused.new.keep _ (rw c.walk.ensures at c.in-Some.ensures.refuses) in
    let goes = goes_on _ c.args.keep c.loop-key.keep c.first_refused.new.keep (end_of c.loop-key.low) c.args.self.now.pairs c.loop-key.self.pairs c.loop-key.invariant.1 c.in-Some.key at_key (end_of c.fence_behind-low.result) c.delete.new.self.pairs c.law-in-Some.ensures.rise c.in-Ok.ensures.deletes.1 c.fence_behind-low.ensures in
    (c.in-Some.ensures.callable, goes, c.in-Ok.ensures.config ∙ c.loop-key.invariant.2, omega (arith, c.in-Ok.ensures.pages, c.loop-key.invariant.3), λ is. full_still c.loop-key.fault c.in-Ok.done.fault c.loop-key.self c.delete.new.self c.loop-key.invariant.4 c.in-Ok.ensures.full c.in-Ok.ensures.pages c.in-Ok.ensures.config (sym c.or-fault.ensures ∙ is))

pub returns-clause-leaves : goal.returns-clause-leaves
returns-clause-leaves g c =
    ends_whole _ c.args.keep c.loop-key.keep c.first_refused.new.keep (end_of c.loop-key.low) c.args.self.now.pairs c.loop-key.self.pairs c.loop-key.invariant.1 _
    (rw c.walk.ensures at (rw c.in_default.is at c.first_refused.ensures.refuses))
