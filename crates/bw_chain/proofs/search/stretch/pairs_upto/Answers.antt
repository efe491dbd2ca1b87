use Rattle.std.proofs.Common.{◌+◌, ◌<◌, ◌≤◌, sym, arith, append-nil}
use Rattle.bw_keys.specs.Ranges.{key_count, end_of}
use Rattle.bw_delta.specs.Entries.{below}
use Rattle.bw_delta.specs.Pairs.{pairs}
use Rattle.bw_delta.specs.Slices.{list_of}
use Rattle.bw_delta.proofs.Rises.{rises-below}
use Rattle.bw_chain.specs.Kinds.{pairs_are}
use Rattle.bw_chain.proofs.Ascending.{ascend_from_rise}
use Rattle.bw_chain.proofs.Bridges.{own_pairs_ascend}
use Rattle.bw_chain.proofs.Searching.Stretches.{stretch_ends}
use Rattle.bw_chain.proofs.search.stretch.pairs_upto.Goals as goal

pub returns-then-not-is_above : goal.returns-then-not-is_above
returns-then-not-is_above g c = let list = below (c.args.key + 1) (pairs c.args.chain.now) in (list, rw c.empty.ensures (sym (append-nil list)))

pub entries_from-requires : goal.entries_from-requires
entries_from-requires g c =
    let listed = list_of c.stretch_around-stretch.result.pairs in
    let end = c.args.key + 1 in
    let rise = rises-below key_count 0 end listed c.stretch_around-stretch.ensures.ascending in
    let few : end ≤ key_count = omega (arith, c.ranges.key.fits) in
    record { ascending = rw (c.below_end-upto.ensures, c.past.ensures) (ascend_from_rise 0 end (below end listed) few rise) }

pub returns : goal.returns
returns g c =
    let stretch = c.stretch_around-stretch in
    let chain = c.args.chain.now in
    let inside : c.args.key < end_of stretch.result.end = c.is_above.ensures.0 c.if-not-is_above.false in
    rw (c.entries_from.ensures, c.below_end-upto.ensures, c.past.ensures, ← pairs_are chain)
    (stretch_ends (list_of stretch.result.pairs) stretch.result.low (c.args.key + 1) _ stretch.ensures.ascending (own_pairs_ascend chain c.requires.sound) (λ q above under. stretch.ensures.same q above (omega (arith, inside, under))))
