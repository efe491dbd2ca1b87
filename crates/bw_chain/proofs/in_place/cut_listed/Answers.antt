use Rattle.std.proofs.Common.{sym, ◌∙◌}
use Rattle.bw_keys.specs.Ranges.{key_count}
use Rattle.bw_chain.proofs.Sorted.{below-front}
use Rattle.bw_chain.proofs.in_place.cut_listed.Goals as goal

pub returns : goal.returns
returns g c =
    c.truncate.ensures
    ∙ rw (c.count_below_key-count.ensures, c.as_slice.ensures) (sym (below-front 0 key_count c.args.separator c.args.entries.now c.requires.ascending))
