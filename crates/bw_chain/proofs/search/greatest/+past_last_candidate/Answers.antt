use Rattle.std.proofs.Common.{◌<◌, ◌≤◌, rules, arith}
use Rattle.bw_keys.specs.Ranges.{end_of}
use Rattle.bw_chain.specs.Changes.{entries_by}
use Rattle.bw_chain.proofs.Searching.Gaps.{HasGap-joined, HasGap-joined_right, HasGap-within}
use Rattle.bw_chain.proofs.search.greatest.+past_last_candidate.Goals as goal

pub returns-then-is_above-clause-gap : goal.returns-then-is_above-clause-gap
returns-then-is_above-clause-gap g t c =
    let own = entries_by g.X.EntryValue.own_entries g.X.EntryValue.own_change in
    let found = end_of c.past_last_candidate-found-in-Merged.result in
    let past : c.in-Merged.merging.separator < found = search rules in
    let upper = rw c.deref-in-Merged.ensures at c.past_last_candidate-found-in-Merged.ensures.gap in
    rw (← c.chain.view_is, c.in-Merged.is)
    (HasGap-joined_right found (end_of c.args.to) c.in-Merged.merging.separator (own c.in-Merged.left.value) (own c.in-Merged.right.value) (omega arith) upper)

pub returns-else-is_above-clause-gap : goal.returns-else-is_above-clause-gap
returns-else-is_above-clause-gap g t c =
    let own = entries_by g.X.EntryValue.own_entries g.X.EntryValue.own_change in
    let low = end_of c.past_last_candidate.result in
    let end = end_of c.args.to in
    let separator = c.in-Merged.merging.separator in
    let found = end_of c.past_last_candidate-found-in-Merged.result in
    let before : found ≤ separator = search rules in
    let left = own c.in-Merged.left.value in
    let right = own c.in-Merged.right.value in
    let upper = rw c.deref-in-Merged.ensures at c.past_last_candidate-found-in-Merged.ensures.gap in
    let lower = rw (c.deref-else-is_above.ensures, c.at_most.ensures) at c.past_last_candidate.ensures.gap in
    rw (← c.chain.view_is, c.in-Merged.is) (HasGap-joined low end separator left right lower (HasGap-within _ end found end right (omega arith) (omega arith) upper))
