use Rattle.std.proofs.Common.{◌≡◌, ◌/◌, suc, add-one, arith}
use Rattle.std.proofs.Math.Nat.{mul-le-mul_right, suc-mul}
use Rattle.bw_delta.specs.Slices.{list_of}
use Rattle.bw_chain.proofs.Sorted.{below-few}
use Rattle.bw_chain.proofs.entries.sorted.count_eighths.Goals as goal
use Rattle.bw_chain.proofs.entries.sorted.count_eighths.Goals.{then-is_below, else-is_below}

pub overflow_sub-len : goal.overflow_sub-len
overflow_sub-len g c = omega (arith, below-few c.args.key (list_of c.args.entries))

pub is_below-requires : goal.is_below-requires
is_below-requires g c =
    let eighth = c.min-eighth.result / 8 in
    let whole = mul-le-mul_right {m = suc c.loop.counter} {n = 8} eighth (omega arith) in
    record {
      ascending = c.requires.ascending;
      inside = omega (arith, below-few c.args.key (list_of c.args.entries), whole, suc-mul c.loop.counter eighth);
    }

pub loop-preserved : goal.loop-preserved
loop-preserved g c =
    let more = suc-mul c.loop.counter (c.min-eighth.result / 8) in
    let so = c.is_below.ensures in
    elim c.if-is_below.branch [
      | then-is_below w ↦ record {
        end = rw add-one (omega (arith, more));
        within = omega (arith, w.passed-is);
        least = omega (arith, w.passed-is, so.0 w.if-is_below.true);
        most = λ less. omega (arith, w.passed-is, less);
      }
      | else-is_below w ↦ record {
        end = rw add-one (omega (arith, more));
        within = omega (arith, w.passed-is);
        least = omega (arith, w.passed-is);
        most = λ less. grind (arith, so.1, w.if-is_below.false, w.passed-is);
      }
    ]

pub returns-clause-most : goal.returns-clause-most
returns-clause-most g c =
    let same : c.loop.counter ≡ 8 = omega arith in
    grind (arith, below-few c.args.key (list_of c.args.entries), c.loop.invariant.most, rw same at c.loop.invariant.end)
