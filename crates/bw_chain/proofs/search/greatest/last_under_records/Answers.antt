use Rattle.std.proofs.Common.{sym}
use Rattle.bw_chain.specs.Changes.{entries_by}
use Rattle.bw_chain.specs.Searching.Reaches.{IsGreatest}
use Rattle.bw_chain.proofs.Searching.Reaches.{greatest_is_last}
use Rattle.bw_chain.proofs.search.greatest.last_under_records.Goals as goal

pub returns-in-Bare : goal.returns-in-Bare
returns-in-Bare g c =
    let own = entries_by g.X.EntryValue.own_entries g.X.EntryValue.own_change in
    let reach = c.under_passed.new.reach in
    let listed = rw c.entries_on.ensures.listed at c.greatest.ensures in
    let rest : IsGreatest reach.upto reach.best (own c.under_passed.result.now) c.greatest.result = rw (← c.behind-chain.view_is, c.in-Bare.is) listed in
    let whole = rw (c.new-reach.ensures.upto, c.new-reach.ensures.none) at (c.under_passed.ensures c.greatest.result rest) in
    sym (greatest_is_last c.args.key (own c.args.chain.now) c.greatest.result c.requires.ascending whole)
