use Rattle.std.proofs.Common.{◌<◌, ◌≤◌, rules, arith}
use Rattle.bw_keys.specs.Ranges.{end_of}
use Rattle.bw_chain.specs.Changes.{entries_by}
use Rattle.bw_chain.proofs.Searching.Gaps.{HasGap-joined, HasGap-joined_left, HasGap-within}
use Rattle.bw_chain.proofs.search.least.+first_candidate.Goals as goal

pub returns-then-is_before-clause-gap : goal.returns-then-is_before-clause-gap
returns-then-is_before-clause-gap g t c =
    let own = entries_by g.X.EntryValue.own_entries g.X.EntryValue.own_change in
    let low = end_of c.args.from in
    let found = end_of c.first_candidate-found-in-Merged.result in
    let before : found < c.in-Merged.merging.separator = search rules in
    let lower = rw c.deref-in-Merged.ensures at c.first_candidate-found-in-Merged.ensures.gap in
    rw (← c.chain.view_is, c.in-Merged.is)
    (HasGap-joined_left low found c.in-Merged.merging.separator (own c.in-Merged.left.value) (own c.in-Merged.right.value) (omega arith) lower)

pub returns-else-is_before-clause-gap : goal.returns-else-is_before-clause-gap
returns-else-is_before-clause-gap g t c =
    let own = entries_by g.X.EntryValue.own_entries g.X.EntryValue.own_change in
    let low = end_of c.args.from in
    let end = end_of c.first_candidate.result in
    let separator = c.in-Merged.merging.separator in
    let found = end_of c.first_candidate-found-in-Merged.result in
    let past : separator ≤ found = search rules in
    let left = own c.in-Merged.left.value in
    let right = own c.in-Merged.right.value in
    let lower = rw c.deref-in-Merged.ensures at c.first_candidate-found-in-Merged.ensures.gap in
    let upper = rw (c.deref-else-is_before.ensures, c.at_least.ensures) at c.first_candidate.ensures.gap in
    rw (← c.chain.view_is, c.in-Merged.is) (HasGap-joined low end separator left right (HasGap-within low _ low found left (omega arith) (omega arith) lower) upper)
