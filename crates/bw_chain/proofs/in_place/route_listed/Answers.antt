use Rattle.std.proofs.Common.{◌≡◌, None, ap, sym, ◌∙◌, arith}
use Rattle.bw_keys.specs.Ranges.{key_count}
use Rattle.bw_delta.specs.Entries.{at}
use Rattle.bw_chain.proofs.InPlaces.{done_if_ok}
use Rattle.bw_chain.proofs.Places.{put-new}
use Rattle.bw_chain.proofs.Sorted.{below-few}
use Rattle.bw_chain.proofs.in_place.route_listed.Goals as goal

pub insert-requires : goal.insert-requires
insert-requires g c =
    omega (arith, below-few c.args.separator c.args.routes.now, rw c.as_slice.ensures at c.count_below_key-place.ensures)

pub returns-in-None-clause-put : goal.returns-in-None-clause-put
returns-in-None-clause-put g c = λ yes.
    let absent : at c.args.separator c.args.routes.now ≡ None = ap (at c.args.separator) (sym c.as_slice-2.ensures) ∙ sym c.in-None.ensures.value in
    done_if_ok c.insert.result c.insert.ensures.inserted (sym c.is_ok.ensures.value ∙ yes)
    ∙ rw (c.count_below_key-place.ensures, c.as_slice.ensures) (put-new 0 key_count c.args.separator c.args.child c.args.routes.now c.requires.ascending absent)
