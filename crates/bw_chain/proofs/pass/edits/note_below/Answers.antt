use Rattle.std.proofs.Common.{◌≤◌, ◌<◌, take, ap, ◌∙◌, arith}
use Rattle.bw_keys.specs.Ranges.{end_of, key_count}
use Rattle.bw_chain.specs.Passing.Edited.{edited_at, edited_below}
use Rattle.bw_chain.proofs.Overlays.{falls-noted, from-noted}
use Rattle.bw_chain.proofs.Passing.Passes.{edited_below-noted, edited_below-same, edited_at-cut}
use Rattle.bw_chain.proofs.pass.edits.note_below.Goals as goal

pub returns-then-is_above-clause-noted : goal.returns-then-is_above-clause-noted
returns-then-is_above-clause-noted g c es ascending =
    let inside : c.args.key < end_of c.args.end = c.is_above.ensures.0 c.if-is_above.true in
    ap (λ edits. edited_below (end_of c.args.end) edits es) c.note_among.ensures.front
    ∙ edited_below-noted 0 (end_of c.args.end) c.args.key c.args.edit (take c.args.count c.args.edits.now) es (omega arith) inside c.requires.among c.requires.falling ascending

pub returns-then-is_above-clause-others : goal.returns-then-is_above-clause-others
returns-then-is_above-clause-others g c =
    let inside : c.args.key < end_of c.args.end = c.is_above.ensures.0 c.if-is_above.true in
    rw c.note_among.ensures.front (from-noted (end_of c.args.end) c.args.key c.args.edit (take c.args.count c.args.edits.now) inside)

pub returns-then-is_above-clause-falling : goal.returns-then-is_above-clause-falling
returns-then-is_above-clause-falling g c =
    let inside : c.args.key < end_of c.args.end = c.is_above.ensures.0 c.if-is_above.true in
    rw c.note_among.ensures.front (falls-noted 0 key_count c.args.key c.args.edit (take c.args.count c.args.edits.now) (omega arith) (omega (arith, c.requires.among)) c.requires.falling)

pub returns-else-is_above-clause-noted : goal.returns-else-is_above-clause-noted
returns-else-is_above-clause-noted g c es ascending =
    let cut : end_of c.args.end ≤ c.args.key = grind (arith, c.is_above.ensures, c.if-is_above.false) in
    edited_below-same (end_of c.args.end) (take c.args.count c.args.edits.now) es (edited_at c.args.key c.args.edit es) (edited_at-cut (end_of c.args.end) c.args.key c.args.edit es cut)
