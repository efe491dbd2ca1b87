use Rattle.std.proofs.Common.{◌≡◌, subst, sym}
use Rattle.std.specs.List.{zip}
use Rattle.bw_keys.specs.Ranges.{key_count, end_of}
use Rattle.bw_delta.specs.Entries.{below}
use Rattle.bw_delta.specs.Slices.{list_of}
use Rattle.bw_chain.specs.Ascends.{IsAscending}
use Rattle.bw_chain.specs.Passing.Edited.{IsFalling}
use Rattle.bw_chain.proofs.Overlays.{falls-below, falls-higher}
use Rattle.bw_chain.proofs.Passing.Passes.{ascending-below}
use Rattle.bw_chain.proofs.pass.pass_base.Goals as goal

pub take_edited-requires-clause-ascending : goal.take_edited-requires-clause-ascending
unfolding list_of
take_edited-requires-clause-ascending g c =
    subst IsAscending (sym c.below_end-listed.ensures) (ascending-below (end_of c.args.end) (list_of c.args.entries) c.requires.among c.requires.ascending)

pub take_edited-requires-clause-falling : goal.take_edited-requires-clause-falling
take_edited-requires-clause-falling g c =
    let end = end_of c.args.end in
    let kept : IsFalling (below end c.args.edits.now) = falls-higher 0 end key_count (below end c.args.edits.now) c.requires.among (falls-below 0 key_count end c.args.edits.now c.requires.falling) in
    rw (c.split_at.ensures.back, ← c.count_from.ensures.after) kept

pub returns-clause-taken : goal.returns-clause-taken
unfolding list_of
returns-clause-taken g c =
    let listed = c.below_end-listed.result in
    let is : zip listed.keys.now listed.values.now ≡ below (end_of c.args.end) (list_of c.args.entries) = c.below_end-listed.ensures in
    rw (is, c.split_at.ensures.back, ← c.count_from.ensures.after) at c.take_edited.ensures.taken

pub returns-clause-refused : goal.returns-clause-refused
unfolding list_of
returns-clause-refused g c =
    let listed = c.below_end-listed.result in
    let is : zip listed.keys.now listed.values.now ≡ below (end_of c.args.end) (list_of c.args.entries) = c.below_end-listed.ensures in
    rw (is, c.split_at.ensures.back, ← c.count_from.ensures.after) at c.take_edited.ensures.refused
