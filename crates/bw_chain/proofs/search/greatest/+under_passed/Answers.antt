use Rattle.bw_chain.specs.Changes.{entries_by}
use Rattle.bw_chain.proofs.Searching.Reaches.{greatest_joined}
use Rattle.bw_chain.proofs.search.greatest.+under_passed.Goals as goal

pub returns-then-reach-merging : goal.returns-then-reach-merging
returns-then-reach-merging g t c answer greatest =
    let own = entries_by g.X.EntryValue.own_entries g.X.EntryValue.own_change in
    let reach = c.args.reach.now in
    let left = own c.in-Merged.left.value in
    let right = own c.in-Merged.field-2.value in
    let lower = rw c.deref-then-reach-merging.ensures at (c.under_passed-then-reach-merging.ensures answer greatest) in
    rw (← c.chain.view_is, c.in-Merged.is)
    (greatest_joined reach.upto c.in-Merged.merging.separator reach.best left right answer c.if-reach-merging.true lower)
