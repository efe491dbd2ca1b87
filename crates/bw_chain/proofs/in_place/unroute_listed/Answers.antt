use Rattle.std.proofs.Common.{refl, ap, sym, ◌∙◌}
use Rattle.bw_keys.specs.Ranges.{key_count}
use Rattle.bw_delta.specs.Entries.{at}
use Rattle.bw_chain.proofs.Places.{without-there}
use Rattle.bw_chain.proofs.InPlaces.{without_or_same}
use Rattle.bw_chain.proofs.in_place.unroute_listed.Goals as goal

pub returns-in-Some : goal.returns-in-Some
returns-in-Some g c =
    let there = ap (at c.args.separator) (sym c.as_slice-2.ensures) ∙ sym c.entry_at.ensures.value ∙ c.in-Some.is in
    c.remove.ensures ∙ rw (c.count_below_key-place.ensures, c.as_slice.ensures) (without-there 0 key_count c.args.separator _ c.args.routes.now c.requires.ascending there)

pub returns-in-None : goal.returns-in-None
returns-in-None g c =
    let absent = ap (at c.args.separator) (sym c.as_slice-2.ensures) ∙ sym c.entry_at.ensures.value ∙ c.in-None.is in
    without_or_same c.args.separator c.args.routes.now _ absent refl
