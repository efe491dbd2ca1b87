use Rattle.std.proofs.Common.{◌≤◌, rules}
use Rattle.bw_keys.specs.Ranges.{end_of}
use Rattle.bw_chain.proofs.Searching.Gaps.{HasGap-put_past, HasGap-put_raised, HasGap-without, HasGap-below}
use Rattle.bw_chain.proofs.search.greatest.past_last_under.Goals as goal

pub returns-then-is_above-clause-gap : goal.returns-then-is_above-clause-gap
returns-then-is_above-clause-gap g c es gap =
    rw (c.in-Put.is, c.later.ensures, c.past.ensures) (HasGap-put_raised (end_of c.args.found) (end_of c.args.to) c.in-Put.key c.in-Put.field-1 es (rw c.in-Put.is at gap))

pub returns-else-is_above-clause-gap : goal.returns-else-is_above-clause-gap
returns-else-is_above-clause-gap g c es gap =
    let past : end_of c.args.to ≤ c.in-Put.key = search rules in
    rw c.in-Put.is (HasGap-put_past (end_of c.args.found) (end_of c.args.to) c.in-Put.key c.in-Put.field-1 es past (rw c.in-Put.is at gap))

pub returns-in-Below-clause-gap : goal.returns-in-Below-clause-gap
returns-in-Below-clause-gap g c es gap =
    rw c.in-Below.is (HasGap-below (end_of c.args.found) (end_of c.args.to) c.in-Below.field-0 es (rw c.in-Below.is at gap))

pub returns-in-Without-clause-gap : goal.returns-in-Without-clause-gap
returns-in-Without-clause-gap g c es gap =
    rw c.in-Without.is (HasGap-without (end_of c.args.found) (end_of c.args.to) c.in-Without.field-0 es (rw c.in-Without.is at gap))
