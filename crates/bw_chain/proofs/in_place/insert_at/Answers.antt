use Rattle.std.proofs.Common.{sym, ◌∙◌, arith}
use Rattle.bw_keys.specs.Ranges.{key_count}
use Rattle.bw_chain.proofs.InPlaces.{done_if_ok}
use Rattle.bw_chain.proofs.Places.{put-new}
use Rattle.bw_chain.proofs.Sorted.{below-few}
use Rattle.bw_chain.proofs.in_place.insert_at.Goals as goal

pub insert-requires : goal.insert-requires
insert-requires g c = omega (arith, below-few c.args.key c.args.pairs.now, c.requires.place)

pub returns-clause-put : goal.returns-clause-put
returns-clause-put g c = λ yes.
    done_if_ok c.insert.result c.insert.ensures.inserted (sym c.is_ok.ensures.value ∙ yes)
    ∙ rw c.requires.place (put-new 0 key_count c.args.key c.args.value c.args.pairs.now c.requires.ascending c.requires.absent)
