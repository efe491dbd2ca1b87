use Rattle.bw_procedures.proofs.Parts.{earned_if_any}
use Rattle.std.proofs.Common.{rules, ◌≡◌, ◌∷◌, [], ◌++◌, ◌+◌, ◌<◌, ◌∙◌, ℕ, drop, get_or, sym, arith}
use Rattle.std.proofs.lemmas.List.{drop_more}
use Rattle.bw_keys.specs.Ranges.{end_of}
use Rattle.bw_procedures.proofs.Removals.{grow_then, key_upto, removes_next, removes_last}
use Rattle.bw_procedures.proofs.clearing.remove_below.Goals as goal

pub returns-then-is_some-clause-removes : goal.returns-then-is_some-clause-removes
returns-then-is_some-clause-removes g c =
    let place = c.loop-pair.pair-index in
    let pair : ℕ × ℕ = get_or c.args.pairs.now place (0, 0) in
    let split : drop place c.args.pairs.now ≡ pair ∷ drop (place + 1) c.args.pairs.now = drop_more c.args.pairs.now place (0, 0) c.loop-pair-test.true in
    let below : pair.0 < end_of c.args.high = search rules in
    let so_far = c.loop-pair.invariant.removes in
    removes_last _ _ _ _ pair _ _ _ _ _ _ (rw split at so_far.1) below c.remove-one.ensures.removes (sym c.is_some.ensures ∙ c.if-is_some.true)

pub loop-pair-preserved : goal.loop-pair-preserved
loop-pair-preserved g c =
    let place = c.loop-pair.pair-index in
    let pair : ℕ × ℕ = get_or c.args.pairs.now place (0, 0) in
    let split : drop place c.args.pairs.now ≡ pair ∷ drop (place + 1) c.args.pairs.now = drop_more c.args.pairs.now place (0, 0) c.loop-pair-test.true in
    let below : pair.0 < end_of c.args.high = search rules in
    let inv = c.loop-pair.invariant in
    let one = c.remove-one.ensures in
    record {
      follows = g.met.S.Steps.joins _ _ _ inv.follows one.follows;
      grows = grow_then _ _ _ inv.grows one.grows;
      removes = (inv.removes.0 ++ pair ∷ [], removes_next _ _ _ _ pair _ _ _ _ _ _ (rw split at inv.removes.1) below one.removes (sym c.is_some.ensures ∙ c.if-is_some.false));
      few = omega (arith, inv.few, key_upto _ _ _ _ _ one.removes);
    }

pub returns-then-is_some-clause-follows : goal.returns-then-is_some-clause-follows
returns-then-is_some-clause-follows g c = g.met.S.Steps.joins _ _ _ c.loop-pair.invariant.follows c.remove-one.ensures.follows

pub returns-then-is_some-clause-grows : goal.returns-then-is_some-clause-grows
returns-then-is_some-clause-grows g c = grow_then _ _ _ c.loop-pair.invariant.grows c.remove-one.ensures.grows

pub returns-then-is_some-clause-fault : goal.returns-then-is_some-clause-fault
returns-then-is_some-clause-fault g c = earned_if_any c.remove-one.result.fault _ _ (g.S.Steps.seen c.remove-one.new.steps) c.loop-pair.invariant.grows c.remove-one.ensures.fault
