use Rattle.std.proofs.Common.{sym, arith}
use Rattle.bw_keys.specs.Ranges.{key_count, end_of}
use Rattle.bw_delta.specs.Slices.{list_of}
use Rattle.bw_chain.proofs.Lasts.{last_below-bound}
use Rattle.bw_chain.proofs.Searching.Gaps.{HasGap-past_last, HasGap-no_last}
use Rattle.bw_chain.proofs.search.greatest.past_last_on_base.Goals as goal

pub returns-in-Some-clause-earlier : goal.returns-in-Some-clause-earlier
returns-in-Some-clause-earlier g c = omega (arith, last_below-bound (end_of c.args.to) c.in-Some.entry (list_of c.entries_on.result) (sym c.in-Some.ensures))

pub returns-in-Some-clause-gap : goal.returns-in-Some-clause-gap
returns-in-Some-clause-gap g c =
    rw (← c.entries_on.ensures.listed, c.past.ensures)
    (HasGap-past_last 0 key_count (end_of c.args.to) c.in-Some.entry (list_of c.entries_on.result) c.entries_on.ensures.ascending (sym c.in-Some.ensures))

pub returns-in-None-clause-gap : goal.returns-in-None-clause-gap
returns-in-None-clause-gap g c =
    rw (← c.entries_on.ensures.listed) (HasGap-no_last (end_of c.args.to) (list_of c.entries_on.result) (sym c.in-None.ensures))
