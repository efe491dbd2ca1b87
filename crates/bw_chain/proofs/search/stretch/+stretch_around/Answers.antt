use Rattle.std.proofs.Common.{sym, ap, ◌∙◌, arith}
use Rattle.bw_keys.specs.Ranges.{end_of}
use Rattle.bw_delta.specs.Pairs.{pairs_listed}
use Rattle.bw_delta.proofs.At.{at-joined_left, at-joined_right}
use Rattle.bw_chain.specs.Changes.{entries_by, pair_change}
use Rattle.bw_chain.proofs.search.stretch.+stretch_around.Goals as goal

pub returns-then-key-merging-clause-same : goal.returns-then-key-merging-clause-same
returns-then-key-merging-clause-same g t c q above inside =
    let own = entries_by pairs_listed pair_change in
    let part = c.part_before.ensures in
    let found = rw c.deref-then-key-merging.ensures at c.stretch_around.ensures.same in
    rw (part.pairs, ← c.chain.view_is, c.in-Merged.is)
    (found q (omega (arith, above, part.low)) (omega (arith, inside, part.end)) ∙ sym (at-joined_left c.in-Merged.merging.separator q (own c.in-Merged.left.value) (own c.in-Merged.right.value) (omega (arith, inside, part.end))))

pub returns-else-key-merging-clause-same : goal.returns-else-key-merging-clause-same
returns-else-key-merging-clause-same g t c q above inside =
    let own = entries_by pairs_listed pair_change in
    let part = c.part_behind.ensures in
    let found = rw c.deref-else-key-merging.ensures at c.stretch_around-else-key-merging.ensures.same in
    rw (part.pairs, ← c.chain.view_is, c.in-Merged.is)
    (found q (omega (arith, above, part.low)) (omega (arith, inside, ap end_of part.end)) ∙ sym (at-joined_right c.in-Merged.merging.separator q (own c.in-Merged.left.value) (own c.in-Merged.right.value) (omega (arith, above, part.low))))
