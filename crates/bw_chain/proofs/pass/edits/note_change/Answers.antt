use Rattle.std.proofs.Common.{take, ap, sym, ◌∙◌}
use Rattle.bw_keys.specs.Ranges.{end_of}
use Rattle.bw_chain.specs.Passing.Edited.{edited_below}
use Rattle.bw_chain.proofs.Passing.Changes.{changed-edit, changed-cut}
use Rattle.bw_chain.proofs.Passing.Passes.{edited_below-same}
use Rattle.bw_chain.proofs.pass.edits.note_change.Goals as goal

pub returns-in-Some-clause-noted : goal.returns-in-Some-clause-noted
returns-in-Some-clause-noted g c es ascending =
    let same = changed-edit c.args.change c.in-Some.key c.in-Some.edit es (sym c.edit.ensures ∙ c.in-Some.is) in
    c.note_below.ensures.noted es ascending ∙ ap (edited_below (end_of c.args.end) (take c.args.count c.args.edits.now)) (sym same)

pub returns-in-None-clause-noted : goal.returns-in-None-clause-noted
returns-in-None-clause-noted g c es ascending =
    edited_below-same (end_of c.args.end) (take c.args.count c.args.edits.now) es _ (changed-cut (end_of c.args.end) c.args.change es (sym c.edit.ensures ∙ c.in-None.is) c.requires.uncut)
