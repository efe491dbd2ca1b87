use Rattle.std.proofs.Common.{sym}
use Rattle.std.proofs.lemmas.List.{take-append-drop, length-take-le}
use Rattle.std.specs.List.{zip}
use Rattle.bw_delta.specs.Slices.{list_of}
use Rattle.bw_delta.proofs.Zips.{take-zip, drop-zip}
use Rattle.bw_delta.proofs.entry_slice.EntrySlice.split_at.Goals as goal

pub returns-clause-parts : goal.returns-clause-parts
unfolding list_of
returns-clause-parts g c =
    let keys = c.args.self.keys.now in
    let values = c.args.self.values.now in
    let place = c.args.place in
    rw (c.split_at.ensures.front, c.split_at.ensures.back, c.split_at-2.ensures.front, c.split_at-2.ensures.back, take-zip place keys values, drop-zip place keys values) (sym (take-append-drop place (zip keys values)))

pub returns-clause-front_len : goal.returns-clause-front_len
unfolding list_of
returns-clause-front_len g c =
    let keys = c.args.self.keys.now in
    let values = c.args.self.values.now in
    let place = c.args.place in
    rw (c.split_at.ensures.front, c.split_at-2.ensures.front, take-zip place keys values) (length-take-le place (zip keys values) c.requires)
