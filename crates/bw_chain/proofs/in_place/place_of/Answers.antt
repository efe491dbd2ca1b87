use Rattle.std.proofs.Common.{arith}
use Rattle.bw_delta.specs.Slices.{list_of}
use Rattle.bw_chain.proofs.KeysAt.{below-each}
use Rattle.bw_chain.proofs.in_place.place_of.Goals as goal

pub returns-then-key : goal.returns-then-key
returns-then-key g c =
    let es = list_of c.args.entries in
    rw c.len-count.ensures (below-each c.args.key _ c.key.result es c.requires.ascending (omega arith) c.key.ensures c.if-key.true)
