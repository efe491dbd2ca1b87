use Rattle.std.proofs.Common.{arith}
use Rattle.bw_delta.specs.Slices.{list_of}
use Rattle.bw_delta.proofs.Zips.{has_key, length-zip}
use Rattle.bw_delta.proofs.entry_slice.EntrySlice.key.Goals as goal

pub returns : goal.returns
unfolding list_of
returns g c =
    let slice = c.args.self in
    has_key c.args.place 0 slice.keys.now slice.values.now slice.even (omega (arith, c.requires, length-zip slice.keys.now slice.values.now slice.even))
