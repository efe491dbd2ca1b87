use Rattle.std.proofs.Common.{rules, ◌≡◌, ◌<◌, ◌-◌, ◌++◌, ◌∙◌, [], length, take, drop, refl, sym, ap, append-nil, append_assoc, length-append, arith}
use Rattle.std.proofs.lemmas.List.{length-take-le}
use Rattle.std.specs.Prelude.{IsErr}
use Rattle.bw_keys.specs.Ranges.{end_of, key_count}
use Rattle.bw_procedures.proofs.Parts.{earned_behind, spends_more}
use Rattle.bw_procedures.proofs.Removals.{spent_grows}
use Rattle.nifforan_forest.proofs.Leaves.{grows_by, leaf_ended, leaf_ends, leaf_read, not_fine, read_on}
use Rattle.nifforan_forest.proofs.Reading.{reads_none, stop_of}
use Rattle.nifforan_forest.proofs.Spending.{spends_none}
use Rattle.nifforan_forest.proofs.Trees.{passed_on}
use Rattle.nifforan_forest.proofs.scan.scan_tree.Goals as goal

pub leaves-init : goal.leaves-init
leaves-init g c = record {
  follows = g.met.H.Steps.stays _;
  spends = spends_none _;
  from_low = omega arith;
  few = omega arith;
  added = (
    [],
    sym (append-nil _),
    refl,
    (
      c.args.low,
      reads_none _ _,
      omega arith,
      omega (arith, c.requires.within),
      λ less. omega
          (arith, c.requires.within),
    ),
  );
}

pub overflow_sub-count : goal.overflow_sub-count
overflow_sub-count g c = omega (arith, grows_by _ _ _ _ _ _ _ c.in_ok-end.ensures.read)

pub returns-in_err-end-clause-scans : goal.returns-in_err-end-clause-scans
returns-in_err-end-clause-scans g c =
    let so_far = c.leaves.invariant.added in
    let err : IsErr c.from_residual.result = search rules in
    record {
      added = so_far.0;
      list = c.in_err-end.ensures.unchanged ∙ so_far.1;
      few = omega (arith, so_far.2, c.leaves.invariant.few);
      reached = so_far.3.0;
      from_low = so_far.3.2;
      within = so_far.3.3;
      reads = read_on _ _ g.met.H.Steps.joins _ _ _ _ _ _ c.scan_leaf.ensures.follows so_far.3.1;
      to_the_end = λ ok less. absurd (not_fine c.from_residual.result err ok);
    }

pub returns-in_default-clause-scans : goal.returns-in_default-clause-scans
returns-in_default-clause-scans g c =
    let inv = c.leaves.invariant in
    let so_far = inv.added in
    let above : c.leaves.at < end_of c.args.high = search rules in
    let leaf = c.in_ok-end.ensures.read in
    let count = leaf.count in
    let end = end_of c.in_ok-end.end in
    let here : so_far.3.0 ≡ c.leaves.at = omega (arith, so_far.3.4 c.leaves-test.true, above) in
    let long : length (take count leaf.pairs) ≡ count = length-take-le count leaf.pairs leaf.few in
    let ends = leaf_ends c.leaves.at (end_of c.args.high) end count leaf.pairs above leaf.above leaf.rise in
    record {
      added = so_far.0 ++ take count leaf.pairs;
      list =
          leaf.appended
          ∙ (ap (λ l. l ++ take count leaf.pairs) so_far.1 ∙ append_assoc c.args.list.now.items so_far.0 (take count leaf.pairs));
      few = omega (arith, length-append so_far.0 (take count leaf.pairs), so_far.2, long, leaf.within_limit, inv.few);
      reached = stop_of (end_of c.args.high) end (drop count leaf.pairs);
      from_low = omega (arith, inv.from_low, ends.0);
      within = ends.1;
      reads =
          leaf_read _ _ g.met.H.Steps.joins g.met.H.Steps.stays _ _ _ _ _ _ _ count so_far.0 leaf.pairs inv.from_low above leaf.above
          inv.follows c.scan_leaf.ensures.follows leaf.shown leaf.rise leaf.below (rw here at so_far.3.1);
      to_the_end = λ ok less.
          let fewer : count < c.args.limit - c.leaves.count =
          omega (arith, length-append so_far.0 (take count leaf.pairs), so_far.2, long, less) in
          let last : end ≡ key_count = ap end_of c.in_default.is in
          omega (
            arith,
            leaf_ended c.leaves.at (end_of c.args.high) end count leaf.pairs leaf.rise (leaf.all fewer),
            last,
            c.end_among_keys.ensures,
          );
    }

pub leaves-preserved : goal.leaves-preserved
leaves-preserved g c =
    let inv = c.leaves.invariant in
    let so_far = inv.added in
    let above : c.leaves.at < end_of c.args.high = search rules in
    let leaf = c.in_ok-end.ensures.read in
    let count = leaf.count in
    let end = end_of c.in_ok-end.end in
    let here : so_far.3.0 ≡ c.leaves.at = omega (arith, so_far.3.4 c.leaves-test.true, above) in
    let long : length (take count leaf.pairs) ≡ count = length-take-le count leaf.pairs leaf.few in
    let ends = leaf_ends c.leaves.at (end_of c.args.high) end count leaf.pairs above leaf.above leaf.rise in
    let next : end ≡ c.in-Key.next = ap end_of c.in-Key.is in
    let longer = grows_by _ _ _ _ _ _ _ leaf in
    record {
      follows = g.met.H.Steps.joins _ _ _ inv.follows c.scan_leaf.ensures.follows;
      spends = spends_more _ _ _ inv.spends c.scan_leaf.ensures.spends;
      from_low = omega (arith, inv.from_low, leaf.above, next);
      few = omega (arith, longer, leaf.within_limit, inv.few);
      added = (
        so_far.0 ++ take count leaf.pairs,
        leaf.appended
            ∙ (ap (λ l. l ++ take count leaf.pairs) so_far.1 ∙ append_assoc c.args.list.now.items so_far.0 (take count leaf.pairs)),
        omega (arith, longer, length-append so_far.0 (take count leaf.pairs), so_far.2, long),
        (
          stop_of (end_of c.args.high) end (drop count leaf.pairs),
          leaf_read _ _ g.met.H.Steps.joins g.met.H.Steps.stays _ _ _ _ _ _ _ count so_far.0 leaf.pairs inv.from_low above leaf.above
              inv.follows c.scan_leaf.ensures.follows leaf.shown leaf.rise leaf.below (rw here at so_far.3.1),
          omega (arith, inv.from_low, ends.0),
          ends.1,
          λ less.
              let fewer : count < c.args.limit - c.leaves.count = omega (arith, longer, less) in
              omega (
                arith,
                leaf_ended c.leaves.at (end_of c.args.high) end count leaf.pairs leaf.rise (leaf.all fewer),
                next,
              ),
        ),
      );
    }

pub returns-in_err-end-clause-fault : goal.returns-in_err-end-clause-fault
returns-in_err-end-clause-fault g c =
    passed_on _ _ _ c.from_residual.ensures.1
    (earned_behind _ (g.H.Steps.seen c.args.hand.now) (g.H.Steps.seen c.leaves.hand) (g.H.Steps.seen c.scan_leaf.new.hand)
    (spent_grows _ _ c.leaves.invariant.spends) c.in_err-end.ensures.fault)
