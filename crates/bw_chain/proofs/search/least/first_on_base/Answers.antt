use Rattle.std.proofs.Common.{sym}
use Rattle.bw_keys.specs.Ranges.{key_count, end_of}
use Rattle.bw_delta.specs.Slices.{list_of}
use Rattle.bw_chain.proofs.Firsts.{first_from-bound}
use Rattle.bw_chain.proofs.Searching.Gaps.{HasGap-before_first, HasGap-no_first}
use Rattle.bw_chain.proofs.search.least.first_on_base.Goals as goal

pub returns-in-Some-clause-later : goal.returns-in-Some-clause-later
returns-in-Some-clause-later g c = first_from-bound (end_of c.args.from) c.in-Some.entry (list_of c.entries_on.result) (sym c.in-Some.ensures)

pub returns-in-Some-clause-gap : goal.returns-in-Some-clause-gap
returns-in-Some-clause-gap g c =
    rw (← c.entries_on.ensures.listed)
    (HasGap-before_first 0 key_count (end_of c.args.from) c.in-Some.entry (list_of c.entries_on.result) c.entries_on.ensures.ascending (sym c.in-Some.ensures))

pub returns-in-None-clause-gap : goal.returns-in-None-clause-gap
returns-in-None-clause-gap g c =
    rw (← c.entries_on.ensures.listed) (HasGap-no_first (end_of c.args.from) key_count (list_of c.entries_on.result) (sym c.in-None.ensures))
