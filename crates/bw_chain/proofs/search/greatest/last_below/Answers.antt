use Rattle.std.proofs.Common.{sym, arith, ◌<◌}
use Rattle.bw_keys.specs.Ranges.{end_of}
use Rattle.bw_chain.specs.Changes.{entries_by}
use Rattle.bw_chain.proofs.Searching.Candidates.{last_below-held, below-tried, last_below-none_left}
use Rattle.bw_chain.proofs.search.greatest.last_below.Goals as goal

pub returns-in-Some-find_entry : goal.returns-in-Some-find_entry
returns-in-Some-find_entry g c =
    let entries = entries_by g.X.EntryValue.own_entries g.X.EntryValue.own_change c.args.chain.now in
    let gap = rw c.in-Some.ensures at c.past_last_candidate.ensures.gap in
    let inside : c.in-Some.key < end_of c.candidates.to = omega (arith, c.past_last_candidate.ensures.earlier, c.in-Some.ensures) in
    sym (last_below-held entries (end_of c.args.fence) (end_of c.candidates.to) c.in-Some.key c.in-Some-find_entry.value c.requires.ascending c.candidates.invariant inside gap (sym c.in-Some-find_entry.ensures))

pub candidates-preserved : goal.candidates-preserved
candidates-preserved g c =
    let entries = entries_by g.X.EntryValue.own_entries g.X.EntryValue.own_change c.args.chain.now in
    let gap = rw c.in-Some.ensures at c.past_last_candidate.ensures.gap in
    let inside : c.in-Some.key < end_of c.candidates.to = omega (arith, c.past_last_candidate.ensures.earlier, c.in-Some.ensures) in
    below-tried entries (end_of c.args.fence) (end_of c.candidates.to) c.in-Some.key c.candidates.invariant inside gap (sym c.in_default-find_entry.ensures)

pub returns : goal.returns
returns g c =
    let entries = entries_by g.X.EntryValue.own_entries g.X.EntryValue.own_change c.args.chain.now in
    let ensured = c.past_last_candidate.ensures in
    sym (last_below-none_left entries (end_of c.args.fence) (end_of c.candidates.to) (end_of c.past_last_candidate.result) c.candidates.invariant ensured.earlier ensured.gap c.in_default.ensures)
