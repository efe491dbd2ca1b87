use Rattle.std.proofs.Common.{arith}
use Rattle.bw_delta.specs.Slices.{list_of}
use Rattle.bw_delta.proofs.Zips.{has_entry, length-zip}
use Rattle.bw_delta.proofs.entry_slice.EntrySlice.entry.Goals as goal

pub returns : goal.returns
unfolding list_of
returns g c =
    let slice = c.args.self in
    has_entry c.args.place 0 c.index-self-place.result slice.keys.now slice.values.now slice.even (omega (arith, c.requires, length-zip slice.keys.now slice.values.now slice.even))
