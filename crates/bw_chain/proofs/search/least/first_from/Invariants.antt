use Rattle.std.proofs.Common.{◌≡◌, ◌-◌}
use Rattle.bw_keys.specs.Ranges.{key_count, end_of}
use Rattle.bw_delta.specs.Entries.{from}
use Rattle.bw_chain.specs.Changes.{entries_by}
use Rattle.bw_chain.proofs.search.least.first_from.Given as goal

abbrev pub invariant-candidates : goal.invariant-candidates
invariant-candidates g l =
    let entries = entries_by g.X.EntryValue.own_entries g.X.EntryValue.own_change l.chain in
    from (end_of l.fn.fence) entries ≡ from (end_of l.from) entries

abbrev pub decreases-candidates : goal.decreases-candidates
decreases-candidates g l = key_count - end_of l.from
