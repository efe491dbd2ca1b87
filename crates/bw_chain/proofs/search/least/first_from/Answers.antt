use Rattle.std.proofs.Common.{◌∙◌, ap, sym, arith}
use Rattle.bw_keys.specs.Ranges.{key_count, end_of}
use Rattle.bw_delta.specs.Entries.{from}
use Rattle.bw_chain.specs.Changes.{entries_by}
use Rattle.bw_chain.proofs.Searching.Candidates.{first_from-held, from-tried, first_from-none_left}
use Rattle.bw_chain.proofs.search.least.first_from.Goals as goal

pub returns-in-Some : goal.returns-in-Some
returns-in-Some g c =
    let entries = entries_by g.X.EntryValue.own_entries g.X.EntryValue.own_change c.args.chain.now in
    sym (first_from-held entries (end_of c.args.fence) (end_of c.candidates.from) c.in-Key.key c.in-Some.value c.requires.ascending c.candidates.invariant c.in-Key.ensures.later c.in-Key.ensures.gap (sym c.in-Some.ensures))

pub candidates-preserved : goal.candidates-preserved
candidates-preserved g c =
    let entries = entries_by g.X.EntryValue.own_entries g.X.EntryValue.own_change c.args.chain.now in
    let tried = from-tried entries (end_of c.args.fence) (end_of c.candidates.from) c.in-Key.key c.candidates.invariant c.in-Key.ensures.later c.in-Key.ensures.gap (sym c.in_default-find_entry.ensures) in
    tried ∙ ap (λ n. from n entries) (sym c.past-from.ensures)

pub returns : goal.returns
returns g c =
    let entries = entries_by g.X.EntryValue.own_entries g.X.EntryValue.own_change c.args.chain.now in
    sym (first_from-none_left entries (end_of c.args.fence) (end_of c.candidates.from) key_count c.requires.ascending c.candidates.invariant c.in_default.ensures.later c.in_default.ensures.gap (omega arith))
