use Rattle.std.proofs.Common.{sym, subst, arith}
use Rattle.bw_keys.specs.Ranges.{key_count}
use Rattle.bw_delta.specs.Entries.{from}
use Rattle.bw_delta.specs.Slices.{list_of}
use Rattle.bw_delta.proofs.Rises.{rises-from, rises-lower}
use Rattle.bw_chain.specs.Ascends.{IsAscending}
use Rattle.bw_chain.proofs.search.stretch.pairs_within.Goals as goal

pub below_end-requires : goal.below_end-requires
below_end-requires g c =
    let listed = list_of c.entries_on.result in
    let rise = rises-from key_count 0 c.args.key listed c.entries_on.ensures.ascending in
    let higher = rises-lower key_count 0 c.args.key (from c.args.key listed) (omega arith) rise in
    record { ascending = subst IsAscending (sym c.entries_from-pairs.ensures) higher }
