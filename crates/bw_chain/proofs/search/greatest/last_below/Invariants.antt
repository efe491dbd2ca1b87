use Rattle.std.proofs.Common.{◌≡◌}
use Rattle.bw_keys.specs.Ranges.{end_of}
use Rattle.bw_delta.specs.Entries.{below}
use Rattle.bw_chain.specs.Changes.{entries_by}
use Rattle.bw_chain.proofs.search.greatest.last_below.Given as goal

abbrev pub invariant-candidates : goal.invariant-candidates
invariant-candidates g l =
    let entries = entries_by g.X.EntryValue.own_entries g.X.EntryValue.own_change l.chain in
    below (end_of l.fn.fence) entries ≡ below (end_of l.to) entries

abbrev pub decreases-candidates : goal.decreases-candidates
decreases-candidates g l = end_of l.to
