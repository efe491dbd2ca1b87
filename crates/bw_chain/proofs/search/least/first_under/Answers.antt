use Rattle.std.proofs.Common.{◌<◌, ◌≤◌, rules}
use Rattle.bw_keys.specs.Ranges.{key_count, end_of}
use Rattle.bw_chain.proofs.Searching.Gaps.{HasGap-put_before, HasGap-put_cut, HasGap-without, HasGap-below_in, HasGap-below_cut}
use Rattle.bw_chain.proofs.search.least.first_under.Goals as goal

pub returns-then-is_above-clause-gap : goal.returns-then-is_above-clause-gap
returns-then-is_above-clause-gap g c es gap =
    let before : c.in-Put.key < end_of c.args.from = search rules in
    rw c.in-Put.is (HasGap-put_before (end_of c.args.from) (end_of c.args.found) c.in-Put.key c.in-Put.field-1 es before gap)

pub returns-else-is_above-clause-gap : goal.returns-else-is_above-clause-gap
returns-else-is_above-clause-gap g c es gap =
    rw (c.in-Put.is, c.at_most.ensures) (HasGap-put_cut (end_of c.args.from) (end_of c.args.found) c.in-Put.key c.in-Put.field-1 es gap)

pub returns-then-is_before-clause-gap : goal.returns-then-is_before-clause-gap
returns-then-is_before-clause-gap g c es gap = rw c.in-Below.is (HasGap-below_in (end_of c.args.from) (end_of c.args.found) c.in-Below.bound es gap)

pub returns-else-is_before-clause-gap : goal.returns-else-is_before-clause-gap
returns-else-is_before-clause-gap g c es gap =
    let past : c.in-Below.bound ≤ end_of c.args.found = search rules in
    rw c.in-Below.is (HasGap-below_cut (end_of c.args.from) key_count c.in-Below.bound (end_of c.args.found) es past gap)

pub returns-in-Without-clause-gap : goal.returns-in-Without-clause-gap
returns-in-Without-clause-gap g c es gap = rw c.in-Without.is (HasGap-without (end_of c.args.from) (end_of c.args.found) c.in-Without.field-0 es gap)
