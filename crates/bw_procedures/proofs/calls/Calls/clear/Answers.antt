use Rattle.bw_procedures.proofs.Parts.{earned_behind, earned_if_any}
use Rattle.std.proofs.Common.{rules, ◌≡◌, ◌∙◌, sym, arith}
use Rattle.bw_procedures.proofs.Removals.{adds_read, adds_read_of, adds_spent, grow_then, no_fault, spent_grows, swept_read}
use Rattle.bw_procedures.proofs.calls.Calls.clear.Goals as goal

pub returns-in-Err-clause-receipts : goal.returns-in-Err-clause-receipts
returns-in-Err-clause-receipts g c = adds_spent _ _ _ _ _ _ _ c.leaves.invariant.receipts c.page_from.ensures.seen

pub returns-then-is_some-clause-receipts : goal.returns-then-is_some-clause-receipts
returns-then-is_some-clause-receipts g c =
    let inv = c.leaves.invariant in
    let slice = c.in-Ok.ensures.slice in
    let same : c.as_slice-pairs.result.now ≡ c.in-Ok.slice.pairs.items = search rules in
    (adds_read_of _ _ _ _ _ _ _ _ _ _ _ _ inv.from_low slice.next_above inv.receipts c.page_from.ensures.seen slice.rises (rw same at c.remove_below-leaf.ensures.removes))

pub returns-in_default-clause-receipts : goal.returns-in_default-clause-receipts
returns-in_default-clause-receipts g c =
    let inv = c.leaves.invariant in
    let slice = c.in-Ok.ensures.slice in
    let same : c.as_slice-pairs.result.now ≡ c.in-Ok.slice.pairs.items = search rules in
    (adds_read_of _ _ _ _ _ _ _ _ _ _ _ _ inv.from_low slice.next_above inv.receipts c.page_from.ensures.seen slice.rises (rw same at c.remove_below-leaf.ensures.removes))

pub returns-in_default-clause-swept : goal.returns-in_default-clause-swept
returns-in_default-clause-swept g c ended key above less =
    let inv = c.leaves.invariant in
    let page = c.page_from.ensures in
    let leaf = c.remove_below-leaf.ensures in
    let same : c.as_slice-pairs.result.now ≡ c.in-Ok.slice.pairs.items = search rules in
    swept_read _ _ _ _ g.met.Self.Steps.joins _ _ _ _ key _ _ _ _ _ _ _ inv.follows page.follows leaf.follows page.seen c.in-Ok.ensures.shows c.in-Ok.ensures.slice.rises
    (rw same at leaf.removes) (no_fault _ (sym c.is_some.ensures ∙ c.if-is_some.false)) inv.swept above (rw c.in_default.is (omega (arith, less, c.end_among_keys.ensures))) less

pub leaves-preserved : goal.leaves-preserved
leaves-preserved g c =
    let inv = c.leaves.invariant in
    let page = c.page_from.ensures in
    let slice = c.in-Ok.ensures.slice in
    let leaf = c.remove_below-leaf.ensures in
    let same : c.as_slice-pairs.result.now ≡ c.in-Ok.slice.pairs.items = search rules in
    record {
      follows = g.met.Self.Steps.joins _ _ _ inv.follows (g.met.Self.Steps.joins _ _ _ page.follows leaf.follows);
      grows = grow_then _ _ _ inv.grows (grow_then _ _ _ (spent_grows _ _ page.seen) leaf.grows);
      from_low = let next = rw c.in-Some.is at slice.next_above in omega (arith, inv.from_low, next);
      receipts = (rw c.in-Some.is at (adds_read _ _ _ _ _ _ _ _ _ _ _ _ inv.from_low slice.next_above inv.receipts page.seen slice.rises (rw same at leaf.removes)));
      swept = λ key above below less.
          swept_read _ _ _ _ g.met.Self.Steps.joins _ _ _ _ key _ _ _ _ _ _ _ inv.follows page.follows leaf.follows page.seen c.in-Ok.ensures.shows slice.rises
          (rw same at leaf.removes) (no_fault _ (sym c.is_some.ensures ∙ c.if-is_some.false)) inv.swept above (rw c.in-Some.is below) less;
    }

pub returns-in-Err-clause-follows : goal.returns-in-Err-clause-follows
returns-in-Err-clause-follows g c = g.met.Self.Steps.joins _ _ _ c.leaves.invariant.follows c.in-Err.ensures.follows

pub returns-then-is_some-clause-follows : goal.returns-then-is_some-clause-follows
returns-then-is_some-clause-follows g c = g.met.Self.Steps.joins _ _ _ c.leaves.invariant.follows (g.met.Self.Steps.joins _ _ _ c.in-Ok.ensures.follows c.remove_below-leaf.ensures.follows)

pub returns-in_default-clause-follows : goal.returns-in_default-clause-follows
returns-in_default-clause-follows g c = g.met.Self.Steps.joins _ _ _ c.leaves.invariant.follows (g.met.Self.Steps.joins _ _ _ c.in-Ok.ensures.follows c.remove_below-leaf.ensures.follows)

pub returns-then-not-has_room-clause-receipts : goal.returns-then-not-has_room-clause-receipts
returns-then-not-has_room-clause-receipts g c = adds_spent _ _ _ _ _ _ _ c.leaves.invariant.receipts c.page_from.ensures.seen

pub returns-then-not-has_room-clause-follows : goal.returns-then-not-has_room-clause-follows
returns-then-not-has_room-clause-follows g c = g.met.Self.Steps.joins _ _ _ c.leaves.invariant.follows c.page_from.ensures.follows

pub returns-in-Err-clause-grows : goal.returns-in-Err-clause-grows
returns-in-Err-clause-grows g c = grow_then _ _ _ c.leaves.invariant.grows (spent_grows _ _ c.page_from.ensures.seen)

pub returns-then-not-has_room-clause-grows : goal.returns-then-not-has_room-clause-grows
returns-then-not-has_room-clause-grows g c = grow_then _ _ _ c.leaves.invariant.grows (spent_grows _ _ c.page_from.ensures.seen)

pub returns-then-is_some-clause-grows : goal.returns-then-is_some-clause-grows
returns-then-is_some-clause-grows g c = grow_then _ _ _ c.leaves.invariant.grows (grow_then _ _ _ (spent_grows _ _ c.page_from.ensures.seen) c.remove_below-leaf.ensures.grows)

pub returns-in_default-clause-grows : goal.returns-in_default-clause-grows
returns-in_default-clause-grows g c = grow_then _ _ _ c.leaves.invariant.grows (grow_then _ _ _ (spent_grows _ _ c.page_from.ensures.seen) c.remove_below-leaf.ensures.grows)

pub returns-in-Err-clause-fault : goal.returns-in-Err-clause-fault
returns-in-Err-clause-fault g c = earned_behind c.in-Err.fault _ _ (g.Self.Steps.seen c.page_from.new.self) c.leaves.invariant.grows c.in-Err.ensures.fault

pub returns-then-is_some-clause-fault : goal.returns-then-is_some-clause-fault
returns-then-is_some-clause-fault g c = earned_if_any c.remove_below-leaf.result.fault _ _ (g.Self.Steps.seen c.remove_below-leaf.new.steps) (grow_then _ _ _ c.leaves.invariant.grows (spent_grows _ _ c.page_from.ensures.seen)) c.remove_below-leaf.ensures.fault
