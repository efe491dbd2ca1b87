use Rattle.std.proofs.Common.{sym, subst, arith}
use Rattle.bw_keys.specs.Ranges.{key_count, end_of}
use Rattle.bw_delta.specs.Entries.{from}
use Rattle.bw_delta.specs.Slices.{list_of}
use Rattle.bw_delta.proofs.Rises.{rises-from, rises-lower}
use Rattle.bw_chain.specs.Ascends.{IsAscending}
use Rattle.bw_chain.specs.Kinds.{pairs_are}
use Rattle.bw_chain.proofs.Bridges.{own_pairs_ascend}
use Rattle.bw_chain.proofs.Searching.Stretches.{stretch_begins}
use Rattle.bw_chain.proofs.search.stretch.pairs_from.Goals as goal

pub below_end-requires : goal.below_end-requires
below_end-requires g c =
    let listed = list_of c.stretch_around-stretch.result.pairs in
    let rise = rises-from key_count 0 c.args.key listed c.stretch_around-stretch.ensures.ascending in
    record { ascending = subst IsAscending (sym c.entries_from.ensures) (rises-lower key_count 0 c.args.key (from c.args.key listed) (omega arith) rise) }

pub returns : goal.returns
returns g c =
    let stretch = c.stretch_around-stretch in
    let chain = c.args.chain.now in
    rw (c.below_end.ensures, c.entries_from.ensures, ← pairs_are chain)
    (stretch_begins (list_of stretch.result.pairs) stretch.result.low c.args.key (end_of stretch.result.end) _ stretch.ensures.begins stretch.ensures.ascending (own_pairs_ascend chain c.requires.sound) stretch.ensures.same)
