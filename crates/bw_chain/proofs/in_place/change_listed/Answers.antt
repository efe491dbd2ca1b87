use Rattle.std.proofs.Common.{◌≡◌, None, Some, ap, sym, ◌∙◌}
use Rattle.bw_keys.specs.Ranges.{key_count}
use Rattle.bw_delta.specs.Entries.{at}
use Rattle.bw_chain.proofs.Places.{put-here, without-there}
use Rattle.bw_chain.proofs.in_place.change_listed.Goals as goal

pub returns-in-Delete-Some-clause-changed : goal.returns-in-Delete-Some-clause-changed
returns-in-Delete-Some-clause-changed g c =
    let had = c.in-Delete-Some.field-0-1 in
    let found : at c.args.key c.args.pairs.now ≡ Some had = ap (at c.args.key) (sym c.as_slice-2.ensures) ∙ sym c.entry_at-had.ensures.value ∙ c.in-Delete-Some.is-1 in
    rw (c.in-Delete-Some.is-0, c.in-Delete-Some.is-1)
    (c.remove.ensures
    ∙ rw (c.place_of-place.ensures, c.as_slice.ensures) (without-there 0 key_count c.args.key had c.args.pairs.now c.requires.ascending found))

pub returns-in-Set-Some-clause-changed : goal.returns-in-Set-Some-clause-changed
returns-in-Set-Some-clause-changed g c =
    let had = c.in-Set-Some.field-0-1 in
    let found : at c.args.key c.args.pairs.now ≡ Some had = ap (at c.args.key) (sym c.as_slice-2.ensures) ∙ sym c.entry_at-had.ensures.value ∙ c.in-Set-Some.is-1 in
    rw (c.in-Set-Some.is-0, c.in-Set-Some.is-1)
    (c.set_value.ensures (c.args.key, had)
    ∙ rw (c.place_of-place.ensures, c.as_slice.ensures)
    (put-here 0 key_count c.args.key c.in-Set-Some.value had (c.args.key, had) c.args.pairs.now c.requires.ascending found))
